-- `skeptolyr::skeptolyr_check` meets its contract: the numbers fit, since those in an answer of check are small.
use mathlib.Core.List.{List}
use mathlib.Core.Path.{◌≡◌, sym, subst, ◌∙◌}
use Prim.Native.Nat.{ℕ}
use native.Mathlib.Omega.{arith}
use Rattle.std.specs.Prelude.{Result, Ok, Err}
use Rattle.refusals.specs.declared.Refusal.{Refusal}
use Rattle.tiling.specs.declared.Counts.{Counts}
use Rattle.tiling.specs.Tiling.{check}
use Rattle.tiling.proofs.Bounds.{Small, check_bounded}
use Rattle.skeptolyr.proofs.skeptolyr_check.Goals as goal

-- What `check` answers is small.
small : (file : List ℕ) {a : Result Counts Refusal} → a ≡ check file → Small a
small file same = subst Small (sym same) (check_bounded file)

pub overflow_mul-result : goal.overflow_mul-result
overflow_mul-result c =
    let few : Small (Ok c.in-Ok.counts) = small c.args.file.now (sym c.in-Ok.is ∙ c.check.ensures) in
    omega arith

pub overflow_add-result : goal.overflow_add-result
overflow_add-result c =
    let few : Small (Ok c.in-Ok.counts) = small c.args.file.now (sym c.in-Ok.is ∙ c.check.ensures) in
    omega arith

pub code_of-requires : goal.code_of-requires
code_of-requires c =
    let near : Small (Err c.in-Err.refusal) = small c.args.file.now (sym c.in-Err.is ∙ c.check.ensures) in
    omega arith
