-- RULES, "From X to a double", and demand 3: how far the double lies from the exact fraction (R + X x 2^E) / 10^D, over whole numbers.
use Rattle.std.specs.Prelude.{◌≡◌, ℕ, suc, ◌+◌, ◌-◌, ◌*◌, ◌^◌, ◌≤◌, Bool, true, false, T, ℤ, pos, negsuc, nat_abs, ◌+ℤ◌, ◌-ℤ◌, ◌*ℤ◌, Float}
use Rattle.std.specs.Float.{nan, inf, fin, binary32, binary64}
use Rattle.std.specs.Float.Ieee.{round, of_bits}
use Rattle.std.specs.Float.Ieee.Scale.{finite}
use Rattle.octets.specs.declared.Signed.{Signed}
use Rattle.octets.specs.Numbers.{whole, whole_of}
use Rattle.doubles.specs.Doubles.{Scaled}

-- l + e, for an exponent e from -l up.
abbrev pub raised : ℕ → ℤ → ℕ
raised l (pos k) = l + k
raised l (negsuc k) = l - suc k

-- 2^l times a finite float whose exponent is -l at least: a whole number.
abbrev pub times2^ : ℕ → Float → ℤ
times2^ l nan = pos 0
times2^ l (inf s) = pos 0
times2^ l (fin s m e) = whole_of s (m * 2 ^ raised l e)

-- S = 2^149 (R + X x 2^E), where R is the single whose bits are r.
abbrev pub exact_s : ℕ → Signed → ℕ → ℤ
exact_s r e x = times2^ 149 (of_bits binary32 r) +ℤ pos (x * 2 ^ raised 149 (whole e))

-- V = 2^1074 times the double.
abbrev pub written_v : Float → ℤ
written_v v = times2^ 1074 v

-- How near V / 2^1074 is to the exact fraction, both sides multiplied out: 2^p times |V x 2^149 x 10^D - S x 2^1074| is no more than
-- |S| x 2^1074. Where D is below 0 its power of ten multiplies S, on both sides. Demand 3 has p = 51.
abbrev pub Near : ℕ → Bool → ℕ → ℤ → ℤ → Type 0
Near p false d v s = 2 ^ p * nat_abs (v *ℤ pos (2 ^ 149 * 10 ^ d) -ℤ s *ℤ pos (2 ^ 1074)) ≤ nat_abs s * 2 ^ 1074
Near p true d v s = 2 ^ p * nat_abs (v *ℤ pos (2 ^ 149) -ℤ s *ℤ pos (10 ^ d * 2 ^ 1074)) ≤ nat_abs s * (10 ^ d * 2 ^ 1074)

-- The double nearest to the fraction n / c, ties to even.
unfoldable pub nearest : ℤ → ℕ → Float
nearest (pos n) c = round binary64 false n c
nearest (negsuc n) c = round binary64 true (suc n) c

-- The sum rounded once, then the quotient, or the product, rounded once.
abbrev pub rounded_twice : Bool → ℕ → ℤ → Float
rounded_twice false d s = nearest (written_v (nearest s (2 ^ 149))) (2 ^ 1074 * 10 ^ d)
rounded_twice true d s = nearest (written_v (nearest s (2 ^ 149)) *ℤ pos (10 ^ d)) (2 ^ 1074)

-- What is asked of the double v, for the D of this sign and size and for S: it is finite, and near to the exact fraction; where that is zero, zero is
-- written; and it is the double that the two roundings give.
pub record Meets (below : Bool) (d : ℕ) (s : ℤ) (v : Float) : Type 0 where
  pub is_finite : T (finite v)
  pub is_near : Near 51 below d (written_v v) s
  pub is_zero : s ≡ pos 0 → v ≡ fin false 0 (pos 0)
  pub is_rounded_twice : v ≡ rounded_twice below d s

-- R, E, D and X within the limits past which a field is refused.
pub record InLimits (r : ℕ) (e d : Signed) (x : ℕ) : Type 0 where
  pub scaled : Scaled r e d
  pub packed : x ≤ 2147483647
