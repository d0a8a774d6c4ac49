-- `skeptolyr::skeptolyr_decode` meets its contract: a refusal's place fits its number, since it lies in a file that is not too long.
use mathlib.Core.Path.{ap, sym, subst, ◌∙◌}
use native.Mathlib.Omega.{arith}
use lib.ListN.{length}
use Rattle.question_decode.proofs.Laws.{Small, decode_small}
use Rattle.skeptolyr.specs.Codes.{decode_code}
use Rattle.skeptolyr.proofs.skeptolyr_decode.Goals as goal
use Rattle.std.specs.Prelude.{Err}

pub code_of-requires : goal.code_of-requires
code_of-requires c =
    let a = c.args in
    let near : Small (Err c.in-Err.refusal) =
    subst Small (sym c.decode.ensures.value ∙ c.in-Err.is) (decode_small a.file.now a.k a.start (length a.values.now) (length a.presence.now)) in
    omega arith

pub returns-in-Ok : goal.returns-in-Ok
returns-in-Ok c =
    record { value = ap decode_code (sym c.in-Ok.is ∙ c.decode.ensures.value); values_after = c.decode.ensures.values_after; presence_after = c.decode.ensures.presence_after }

pub returns-in-Err : goal.returns-in-Err
returns-in-Err c =
    record { value = c.code_of.ensures ∙ ap decode_code (sym c.in-Err.is ∙ c.decode.ensures.value); values_after = c.decode.ensures.values_after; presence_after = c.decode.ensures.presence_after }
