-- Each power that the rebuild takes is exact: 2 ^ E from its bit pattern, for E from -127 to 127, and 10 ^ n by n products with ten, for n up to 22.
use mathlib.Core.Path.{◌≡◌, refl, sym, ap, ◌∙◌, subst}
use Prim.Native.Nat.{ℕ, zero, suc, ◌+◌, ◌-◌, ◌*◌, ◌/◌, ◌%◌, ◌^◌, ◌≤◌, ◌<◌}
use native.Mathlib.Nat.{lt_of_lt_of_le, lt_of_le_of_lt, mul_assoc, mul-one, mul-mul-mul_comm, add-mul-mod_self_right, pow-suc, pow-le-pow_right}
use native.Mathlib.Omega.{arith}
use mathlib.Core.Bool.{Bool, false, true, not, ◌&&◌}
use borrow.Author.Tests.{le-leb, lt-leb, ne_eqb}
use lib.Dec.{T, leb, ltb, eqb, lt→ltb, lit<}
use lib.Pow.{pow-add, pow_mono, shl_lt}
use lib.IntN.{ℤ, pos, negsuc}
use lib.Ieee.{fin, binary64, minus, round, mul, of_fields, of_bits, nan_bits, is_nan, fits}
use lib.Ieee.Fits.{and_i, eq→eqb, round-fits}
use lib.Ieee.Bits.{nan_bits_is}
use lib.Ieee.Exact.{round_exact}
use lib.Ieee.Back.{whole_unique}
use Rattle.octets.specs.Numbers.{whole_of}
use Rattle.doubles.specs.Doubles.{power_of_two, power_of_ten}

-- A pattern whose exponent's field is suc x, and whose other fields are 0.
pattern : (x : ℕ) → x < 2046 → of_bits binary64 (suc x * 2 ^ 52) ≡ fin false 1 (minus (x + 52) 1074)
unfolding of_bits of_fields
pattern x h = rw (lt-leb (2 ^ 63) (suc x * 2 ^ 52) (sign x h), field x h, fraction x h, ne_eqb (suc x) 2047 (ordinary x h))
  where
    sign : (x : ℕ) → x < 2046 → suc x * 2 ^ 52 < 2 ^ 63
    sign x h = omega arith

    field : (x : ℕ) → x < 2046 → suc x * 2 ^ 52 % 2 ^ 63 / 2 ^ 52 ≡ suc x
    field x h = omega arith

    fraction : (x : ℕ) → x < 2046 → suc x * 2 ^ 52 % 2 ^ 52 ≡ 0
    fraction x h = omega arith

    ordinary : (x : ℕ) → x < 2046 → suc x ≡ 2047 → ⊥
    ordinary x h e = omega arith

minus_up : (a n : ℕ) → a ≡ 1074 + n → minus a 1074 ≡ pos n
minus_up a n e = rw (le-leb 1074 a (omega arith)) (ap pos (omega arith))

minus_down : (a n : ℕ) → a + suc n ≡ 1074 → minus a 1074 ≡ negsuc n
minus_down a n e = rw (lt-leb 1074 a (omega arith)) (ap negsuc (omega arith))

pub two_up : (n : ℕ) → n ≤ 127 → of_bits binary64 ((1023 + n) * 2 ^ 52) ≡ power_of_two (pos n)
two_up n h = ap (λ (x : ℕ). of_bits binary64 (x * 2 ^ 52)) (next n) ∙ pattern (1022 + n) (omega arith) ∙ ap power_of_two (minus_up (1022 + n + 52) n (omega arith))
  where
    next : (n : ℕ) → 1023 + n ≡ suc (1022 + n)
    next n = omega arith

pub two_down : (n : ℕ) → n ≤ 127 → of_bits binary64 ((1023 - n) * 2 ^ 52) ≡ power_of_two (whole_of true n)
two_down zero h = two_up 0 h
two_down (suc n) h = ap (λ (x : ℕ). of_bits binary64 (x * 2 ^ 52)) (next n h) ∙ pattern (1021 - n) (omega arith) ∙ ap power_of_two (minus_down (1021 - n + 52) n (omega arith))
  where
    next : (n : ℕ) → suc n ≤ 127 → 1023 - suc n ≡ suc (1021 - n)
    next n h = omega arith

-- A pattern of a power of two is no pattern of a NaN.
pub ordinary_pattern : (b : ℕ) (e : ℤ) → of_bits binary64 b ≡ power_of_two e → T (not (nan_bits binary64 b))
unfolding is_nan
ordinary_pattern b e p = subst (λ (t : Bool). T (not t)) (sym (nan_bits_is binary64 b ∙ ap is_nan p)) tt

-- A double holds m x 2 ^ k where m is odd and has no more than 53 binary digits, and the whole is below 2 ^ 1024.
held : (m k : ℕ) → m % 2 ≡ 1 → m < 2 ^ 53 → k ≤ 971 → T (fits binary64 (fin false m (pos k)))
unfolding fits
held zero k odd few small = absurd (omega arith)
held (suc m) k odd few small =
    let digits = eqb (suc m % 2) 1 && ltb (suc m) (2 ^ 53) in
    and_i (digits && leb 1 (2 ^ 1074)) (ltb (suc m * 2 ^ k) (2 ^ 1024 * 1))
    (and_i digits (leb 1 (2 ^ 1074)) (and_i (eqb (suc m % 2) 1) (ltb (suc m) (2 ^ 53)) (eq→eqb odd) (lt→ltb (suc m) (2 ^ 53) few)) tt)
    (lt→ltb (suc m * 2 ^ k) (2 ^ 1024 * 1) (lt_of_lt_of_le (shl_lt 53 k few) (pow_mono {j = 1024} (omega arith))))

-- So rounding leaves it as it is.
unrounded : (m k : ℕ) → m % 2 ≡ 1 → m < 2 ^ 53 → k ≤ 971 → round binary64 false (m * 2 ^ k) 1 ≡ fin false m (pos k)
unrounded m k odd few small =
    whole_unique binary64 (round binary64 false (m * 2 ^ k) 1) (fin false m (pos k)) false (m * 2 ^ k) (round-fits binary64 false (m * 2 ^ k) 1) (held m k odd few small)
    (round_exact binary64 false (m * 2 ^ k) 1 m (k + 1074) (lit< tt) few
    (lt_of_lt_of_le (shl_lt 53 (k + 1074) few) (pow_mono {i = 53 + (k + 1074)} {j = 2098} (omega arith)))
    (mul_assoc m (2 ^ k) (2 ^ 1074) ∙ ap (λ (x : ℕ). m * x) (sym (pow-add 2 k 1074)) ∙ sym (mul-one (m * 2 ^ (k + 1074)))))
    (refl, refl)

-- 5 ^ n is odd, and up to 22 it has no more than 53 binary digits: 5 ^ 22 has 52.
five_odd : (n : ℕ) → 5 ^ n % 2 ≡ 1
five_odd zero = refl
five_odd (suc n) = ap (λ (x : ℕ). x % 2) (pow-suc 5 n ∙ fivefold (5 ^ n)) ∙ add-mul-mod_self_right (5 ^ n) (5 ^ n * 2) 2 ∙ five_odd n
  where
    fivefold : (m : ℕ) → m * 5 ≡ m + m * 2 * 2
    fivefold m = omega arith

five_few : (n : ℕ) → n ≤ 22 → 5 ^ n < 2 ^ 53
five_few n h = lt_of_le_of_lt (pow-le-pow_right (lit< tt) h) (lit< tt)

-- The product of 10 ^ n and ten is 10 ^ (n + 1), with nothing rounded off.
pub ten_more : (n : ℕ) → n < 22 → mul binary64 (power_of_ten n) (power_of_ten 1) ≡ power_of_ten (n + 1)
unfolding mul
ten_more n h =
    let product : 5 ^ n * 2 ^ n * (5 * 2) ≡ 5 ^ (n + 1) * 2 ^ (n + 1) =
    mul-mul-mul_comm (5 ^ n) (2 ^ n) 5 2 ∙ ap (λ (x : ℕ). x * (2 ^ n * 2)) (sym (pow-add 5 n 1)) ∙ ap (λ (x : ℕ). 5 ^ (n + 1) * x) (sym (pow-add 2 n 1)) in
    ap (λ (x : ℕ). round binary64 false x 1) product ∙ unrounded (5 ^ (n + 1)) (n + 1) (five_odd (n + 1)) (five_few (n + 1) (omega arith)) (omega arith)
