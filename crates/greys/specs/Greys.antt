-- RULES, "The picture": the grey of a point, by its integer X and by the largest X that is present.
use Rattle.std.specs.Prelude.{ℕ, zero, suc, ◌+◌, ◌*◌, ◌/◌, ◌≤◌, ◌≡◌, cond, eqb}
use Rattle.greys.specs.declared.Scale.{Scale}

-- A point that is present is 1 + (254 x X) div M, where M is the largest X that is present. Where that is 0, each is 1.
abbrev pub grey_of : (largest x : ℕ) → ℕ
grey_of largest x = cond (eqb largest 0) 1 (1 + 254 * x / largest)

-- A point that is missing is 0.
abbrev pub point_grey : (largest mark x : ℕ) → ℕ
point_grey largest zero x = 0
point_grey largest (suc mark) x = grey_of largest x

-- No integer is divided by 0: where all that are present are 0, they are as grey by 1 as by 0.
abbrev pub divisor_of : ℕ → ℕ
divisor_of largest = cond (eqb largest 0) 1 largest

-- How greys are worked out: the largest X, or 1 for 0, and what it is in 254 x 2^56, and one more. The greys of an X below 2^28 are those of the product with
-- that, which ends on 56 bits too many.
abbrev pub scale_of : ℕ → Scale
scale_of largest = record { largest = divisor_of largest; share = 18302628885633695744 / divisor_of largest + 1 }

-- A scale is that of some largest X.
abbrev pub ScaledTo : Scale → Type 0
ScaledTo s = (1 ≤ s.largest) × (s.largest ≤ 2147483647) × (s.share ≡ 18302628885633695744 / s.largest + 1)

-- The first n integers are no larger than the largest that the scale is for.
abbrev pub Below : Scale → (ℕ → ℕ) → ℕ → Type 0
Below s x n = (m : ℕ) → suc m ≤ n → x m ≤ s.largest
