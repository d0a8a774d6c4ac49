-- Demands 1 and 3 of the question that rebuilds one double from R, E, D and X, which is asked without a file.
use Rattle.std.specs.Prelude.{ℕ, ◌≡◌, ◌↔◌, pos, Float, Ok, Err}
use Rattle.octets.specs.declared.Signed.{Signed}
use Rattle.octets.specs.Numbers.{whole}
use Rattle.refusals.specs.declared.Refusal.{Refusal}
use Rattle.doubles.specs.Doubles.{value_of, rebuild_one}
use Rattle.theorems_bound.specs.Bound.{exact_s, Meets, InLimits}
use Rattle.theorems_demands.specs.Questions.{refused, refused_by}

module _ (r : ℕ) (e d x : Signed) where
  -- X is the whole number n, and all four are in their limits.
  abbrev pub Within : ℕ → Type 0
  Within n = (whole x ≡ pos n) × InLimits r e d n

  pub record Rebuilds : Type 0 where
    -- It answers exactly within the limits, with the double of R, E, D and X, which meets demand 3.
    pub answers : (v : Float) → (rebuild_one r e d x ≡ Ok v) ↔ ((n : ℕ) × Within n × (v ≡ value_of r e d n))
    pub meets : (v : Float) (n : ℕ) → rebuild_one r e d x ≡ Ok v → whole x ≡ pos n → Meets d.negative d.size (exact_s r e n) v
    -- Past them it is refused by 19, at place 0, and by no other.
    pub refuses : (f : Refusal) → (rebuild_one r e d x ≡ Err f) ↔ ((refused_by f ≡ refused 19 0) × ((n : ℕ) → Within n → ⊥))
