-- `skeptolyr::skeptolyr_picture` meets its contract: a refusal's place fits its number, since it lies in a file that is not too long.
use mathlib.Core.Path.{ap, sym, subst, ◌∙◌}
use native.Mathlib.Omega.{arith}
use lib.ListN.{length}
use Rattle.question_picture.proofs.Laws.{Modest, picture_modest}
use Rattle.skeptolyr.specs.Codes.{picture_code}
use Rattle.skeptolyr.proofs.skeptolyr_picture.Goals as goal
use Rattle.std.specs.Prelude.{Err}

pub code_of-requires : goal.code_of-requires
code_of-requires c =
    let a = c.args in
    let near : Modest (Err c.in-Err.refusal) =
    subst Modest (sym c.picture.ensures.value ∙ c.in-Err.is) (picture_modest a.file.now a.k (length a.picture.now)) in
    omega arith

pub returns-in-Ok : goal.returns-in-Ok
returns-in-Ok c = record { value = ap picture_code (sym c.in-Ok.is ∙ c.picture.ensures.value); picture_after = c.picture.ensures.run_after }

pub returns-in-Err : goal.returns-in-Err
returns-in-Err c =
    record { value = c.code_of.ensures ∙ ap picture_code (sym c.in-Err.is ∙ c.picture.ensures.value); picture_after = c.picture.ensures.run_after }
