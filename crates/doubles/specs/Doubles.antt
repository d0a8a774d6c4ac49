-- RULES, "From X to a double": the double as IEEE 754's operations give it, and the question that rebuilds one.
use Rattle.std.specs.Prelude.{ℕ, ◌^◌, ◌≤◌, Bool, true, false, ◌&&◌, cond, T, leb, ℤ, pos, negsuc, Float, Result, Ok, Err}
use Rattle.std.specs.Float.{fin, binary32, binary64}
use Rattle.std.specs.Float.Ieee.{add, mul, div, of_int, of_bits}
use Rattle.std.specs.Float.Ieee.Scale.{finite}
use Rattle.octets.specs.declared.Signed.{Signed}
use Rattle.octets.specs.Numbers.{whole}
use Rattle.refusals.specs.declared.Refusal.{Refusal}
use Rattle.refusals.specs.declared.Why.TheVariants as Why
use Rattle.doubles.specs.declared.Packing.{Packing}

-- 2 ^ e, and 10 ^ n, which is 5 ^ n x 2 ^ n, each as the double that it is.
abbrev pub power_of_two : ℤ → Float
power_of_two e = fin false 1 e

abbrev pub power_of_ten : ℕ → Float
power_of_ten n = fin false (5 ^ n) (pos n)

-- R, E and D within the limits past which a field is refused: R is finite, E is from -127 to 127, and D from -22 to 22.
pub record Scaled (r : ℕ) (e d : Signed) : Type 0 where
  pub finite_r : T (finite (of_bits binary32 r))
  pub e127 : e.size ≤ 127
  pub d22 : d.size ≤ 22

-- The packing record of R, E and D. Each of its three numbers is a double without rounding; R is the single whose bits are r.
abbrev pub packing_of : ℕ → Signed → Signed → Packing
packing_of r e d =
    record {
      reference = of_bits binary32 r;
      binary = power_of_two (whole e);
      decimal = power_of_ten d.size;
      below = d.negative;
    }

-- R + X x 2^E. The product is exact, so that only the sum rounds, once, as IEEE 754 does by default: to nearest, ties to even.
unfoldable pub sum_of : Float → Float → ℕ → Float
sum_of reference binary x = add binary64 reference (mul binary64 (of_int binary64 (pos x)) binary)

-- The sum over 10^D, which rounds once more. Where D is below 0 that is a product with 10^|D|.
unfoldable pub scaled_by : Bool → Float → Float → Float
scaled_by false decimal sum = div binary64 sum decimal
scaled_by true decimal sum = mul binary64 sum decimal

-- The double of X by a packing record, and by R, E and D.
abbrev pub rebuilt : Packing → ℕ → Float
rebuilt p x = scaled_by p.below p.decimal (sum_of p.reference p.binary x)

unfoldable pub value_of : ℕ → Signed → Signed → ℕ → Float
unfolding sum_of scaled_by
value_of r e d x = rebuilt (packing_of r e d) x

-- X from 0 to 2,147,483,647.
abbrev pub is_in_range : ℤ → Bool
is_in_range (pos x) = leb x 2147483647
is_in_range (negsuc x) = false

-- Refusal 19: R not finite, E or D past section 5's limits, or X out of its range. Its place is 0.
abbrev pub is_rebuildable : ℕ → Signed → Signed → Signed → Bool
is_rebuildable r e d x = finite (of_bits binary32 r) && leb e.size 127 && leb d.size 22 && is_in_range (whole x)

abbrev pub not_rebuildable : Refusal
not_rebuildable = record { why = Why.NotRebuildable; place = record { 0 = 0 } }

abbrev pub rebuild_one : ℕ → Signed → Signed → Signed → Result Float Refusal
rebuild_one r e d x = cond (is_rebuildable r e d x) (Ok (value_of r e d x.size)) (Err not_rebuildable)
