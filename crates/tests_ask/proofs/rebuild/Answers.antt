-- `tests_ask::rebuild` is safe and ends: a double that is answered is finite, and so no NaN.
use mathlib.Core.Path.{sym, ◌∙◌, subst}
use mathlib.Core.Bool.{Bool, not}
use lib.Dec.{T}
use lib.Ieee.{Float}
use lib.Ieee.Scale.{finite}
use Rattle.doubles.proofs.Answers.{finite_number}
use Rattle.theorems_bound.proofs.Meets.{answered_meets}
use Rattle.tests_ask.proofs.rebuild.Goals as goal

pub float_to_bits-pattern : goal.float_to_bits-pattern
float_to_bits-pattern g c =
    let meets = answered_meets c.number_at-r.result c.sign_and_size-e.result c.sign_and_size-d.result c.sign_and_size-x.result c.in-Ok.value (sym c.rebuild_one.ensures ∙ c.in-Ok.is) in
    subst (λ (b : Bool). T (not b)) (sym (finite_number _ (subst (λ (v : Float). T (finite v)) (sym meets.0) meets.1.is_finite))) tt
