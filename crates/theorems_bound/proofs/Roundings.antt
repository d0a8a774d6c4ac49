-- What the two roundings make of S: a finite double, near to S / 2^149 / 10^D, and +0 where S is 0.
use mathlib.Core.Path.{◌≡◌, refl, sym, ap, ◌∙◌, subst}
use Prim.Native.Nat.{ℕ, zero, suc, ◌+◌, ◌-◌, ◌*◌, ◌^◌, ◌≤◌, ◌<◌}
use native.Mathlib.Nat.{le_trans, le_of_eq, lt_of_lt_of_le, lt_of_le_of_lt, lt_irrefl, zero-lt-suc, zero-mul, mul_comm, mul_assoc, mul_right_comm, one-mul, add-mul, mul-le-mul_left, mul-le-mul_right, mul-pos, le-mul_of_pos_right, lt_of_mul-lt-mul_right, le_of_mul-le-mul_right, mul-lt-mul_of_pos_right}
use native.Mathlib.Omega.{arith}
use mathlib.Core.Bool.{Bool, true, false}
use lib.IntN.{ℤ, pos, negsuc, nat_abs, ◌-ℤ◌, ◌*ℤ◌}
use lib.Dec.{T, lit≤}
use lib.Pow.{pow_pos, add-lt-pow}
use lib.Ieee.{Float, nan, inf, fin, binary64, round}
use lib.Ieee.Fits.{round-fits}
use lib.Ieee.Exact.{HasValue}
use lib.Ieee.Scale.{round_same, grid, overflow, finite, normal_of_fraction}
use Rattle.octets.specs.Numbers.{whole_of}
use Rattle.doubles.specs.Doubles.{power_of_ten, scaled_by}
use Rattle.theorems_bound.specs.Bound.{written_v, Near, Meets, nearest, rounded_twice}
use Rattle.theorems_bound.proofs.Whole.{times_is}
use Rattle.theorems_bound.proofs.Distance.{whole_times, size_of_whole, distance}
use Rattle.theorems_bound.proofs.Scaled.{ten_pos, ten_le, above, under, scaled_is}
use Rattle.theorems_bound.proofs.Error.{Close, rounding_close, rounding_value, under_double, over_half, close_times, close_cancel, twice_close}

-- The first rounding, of n / 2^149 for an n from 1 to 2^308, in units of 2^-1074.
abbrev first : ℕ → ℕ
first n = grid binary64 n (2 ^ 149)

first_close : (n : ℕ) → 0 < n → Close 53 (first n * 2 ^ 149) (n * 2 ^ 1074)
first_close n positive =
    rounding_close binary64 n (2 ^ 149) (pow_pos 149)
    (normal_of_fraction binary64 n (2 ^ 149) (pow_pos 149) (le_trans (lit≤ tt) (le_trans (le_of_eq (sym (one-mul (2 ^ 1074)))) (mul-le-mul_right (2 ^ 1074) positive))))

first_small : (n : ℕ) → 0 < n → n < 2 ^ 308 → first n < 2 ^ 1234
first_small n positive h =
    let a : n * 2 ^ 1074 < 2 ^ 1382 = mul-lt-mul_of_pos_right h (pow_pos 1074) in
    lt_of_mul-lt-mul_right (2 ^ 149) (lt_of_le_of_lt (under_double (first n * 2 ^ 149) (n * 2 ^ 1074) (first_close n positive)) (add-lt-pow 1382 a a))

first_large : (n : ℕ) → 0 < n → 2 ^ 924 ≤ first n
first_large n positive =
    halves (2 ^ 924) (first n)
    (le_of_mul-le-mul_right {k = 2 ^ 149}
    (le_trans (mul-le-mul_right (2 ^ 1074) positive) (le_trans (over_half (first n * 2 ^ 149) (n * 2 ^ 1074) (first_close n positive)) (le_of_eq (sym (add-mul (first n) (first n) (2 ^ 149))))))
    (pow_pos 149))
  where
    halves : (p g : ℕ) → p + p ≤ g + g → p ≤ g
    halves p g h = omega arith

first_value : (s : Bool) (n : ℕ) → 0 < n → n < 2 ^ 308 → HasValue (round binary64 s n (2 ^ 149)) s (first n) (2 ^ 1074)
first_value s n positive h = rounding_value binary64 s n (2 ^ 149) (lt_of_lt_of_le (first_small n positive h) (lit≤ tt))

-- The second rounding, of the quotient or the product, in units of 2^-1074.
abbrev second : Bool → ℕ → ℕ → ℕ
second below d n = grid binary64 (above below d (first n)) (under below d (2 ^ 1074))

divided_close : (n d : ℕ) → 0 < n → d ≤ 22 → Close 53 (second false d n * 10 ^ d) (first n)
divided_close n d positive limit =
    let g = first n in
    let t = 10 ^ d in
    let c = 2 ^ 1074 * t in
    let divisor : 0 < c = mul-pos (pow_pos 1074) (ten_pos d) in
    let G = grid binary64 g c in
    let normal : 2 ^ 52 * c ≤ g * 2 ^ 1074 =
    le_trans (le_of_eq (sym (mul_assoc (2 ^ 52) (2 ^ 1074) t) ∙ mul_right_comm (2 ^ 52) (2 ^ 1074) t))
    (mul-le-mul_right (2 ^ 1074) (le_trans (mul-le-mul_left (2 ^ 52) (ten_le d limit)) (le_trans (lit≤ tt) (first_large n positive)))) in
    close_cancel 53 (G * t) g (2 ^ 1074) (pow_pos 1074)
    (subst (λ (z : ℕ). Close 53 z (g * 2 ^ 1074)) (sym (mul_assoc G (2 ^ 1074) t) ∙ mul_right_comm G (2 ^ 1074) t) (rounding_close binary64 g c divisor (normal_of_fraction binary64 g c divisor normal)))

multiplied_close : (n d : ℕ) → 0 < n → Close 53 (second true d n) (first n * 10 ^ d)
multiplied_close n d positive =
    let a = first n * 10 ^ d in
    let large : 2 ^ 52 ≤ a = le_trans (lit≤ tt) (le_trans (first_large n positive) (le-mul_of_pos_right (first n) (ten_pos d))) in
    close_cancel 53 (second true d n) a (2 ^ 1074) (pow_pos 1074) (rounding_close binary64 a (2 ^ 1074) (pow_pos 1074) (normal_of_fraction binary64 a (2 ^ 1074) (pow_pos 1074) (mul-le-mul_right (2 ^ 1074) large)))

-- Neither overflows.
second_small : (below : Bool) (d n : ℕ) → 0 < n → n < 2 ^ 308 → d ≤ 22 → second below d n < overflow binary64
second_small false d n positive small limit =
    let b : first n < 2 ^ 1234 = first_small n positive small in
    lt_of_lt_of_le (lt_of_le_of_lt (le_trans (le-mul_of_pos_right (second false d n) (ten_pos d)) (under_double (second false d n * 10 ^ d) (first n) (divided_close n d positive limit))) (add-lt-pow 1234 b b)) (lit≤ tt)
second_small true d n positive small limit =
    let a = first n * 10 ^ d in
    let b : a < 2 ^ 1310 = lt_of_lt_of_le (lt_of_le_of_lt (mul-le-mul_left (first n) (ten_le d limit)) (mul-lt-mul_of_pos_right (first_small n positive small) (ten_pos 22))) (lit≤ tt) in
    lt_of_lt_of_le (lt_of_le_of_lt (under_double (second true d n) a (multiplied_close n d positive)) (add-lt-pow 1310 b b)) (lit≤ tt)

-- Both are within one part in 2^51 of the exact fraction.
second_near : (below : Bool) (s : Bool) (n d : ℕ) → 0 < n → d ≤ 22 → Near 51 below d (whole_of s (second below d n)) (whole_of s n)
second_near false s n d positive limit =
    let t = 10 ^ d in
    let G = second false d n in
    let close = twice_close (G * t * 2 ^ 149) (first n * 2 ^ 149) (n * 2 ^ 1074) (close_times 53 (G * t) (first n) (2 ^ 149) (divided_close n d positive limit)) (first_close n positive) in
    let order : G * t * 2 ^ 149 ≡ G * (2 ^ 149 * t) = mul_assoc G t (2 ^ 149) ∙ ap (λ (z : ℕ). G * z) (mul_comm t (2 ^ 149)) in
    subst (λ (z : ℕ). 2 ^ 51 * nat_abs (whole_of s G *ℤ pos (2 ^ 149 * t) -ℤ whole_of s n *ℤ pos (2 ^ 1074)) ≤ z * 2 ^ 1074) (sym (size_of_whole s n))
    (distance (2 ^ 51) s G (2 ^ 149 * t) n (2 ^ 1074) (n * 2 ^ 1074)
    (subst (λ (z : ℕ). 2 ^ 51 * (z - n * 2 ^ 1074) ≤ n * 2 ^ 1074) order close.0)
    (subst (λ (z : ℕ). 2 ^ 51 * (n * 2 ^ 1074 - z) ≤ n * 2 ^ 1074) order close.1))
second_near true s n d positive limit =
    let t = 10 ^ d in
    let g = first n in
    let G = second true d n in
    let M = n * (t * 2 ^ 1074) in
    let sum-order : g * 2 ^ 149 * t ≡ g * t * 2 ^ 149 = mul_right_comm g (2 ^ 149) t in
    let exact-order : n * 2 ^ 1074 * t ≡ M = mul_right_comm n (2 ^ 1074) t ∙ mul_assoc n t (2 ^ 1074) in
    let sum-close : Close 53 (g * t * 2 ^ 149) M =
    subst (λ (z : ℕ). Close 53 z M) sum-order (subst (λ (z : ℕ). Close 53 (g * 2 ^ 149 * t) z) exact-order (close_times 53 (g * 2 ^ 149) (n * 2 ^ 1074) t (first_close n positive))) in
    let close = twice_close (G * 2 ^ 149) (g * t * 2 ^ 149) M (close_times 53 G (g * t) (2 ^ 149) (multiplied_close n d positive)) sum-close in
    subst (λ (z : ℕ). 2 ^ 51 * nat_abs (whole_of s G *ℤ pos (2 ^ 149) -ℤ whole_of s n *ℤ pos (t * 2 ^ 1074)) ≤ z * (t * 2 ^ 1074)) (sym (size_of_whole s n))
    (distance (2 ^ 51) s G (2 ^ 149) n (t * 2 ^ 1074) M close.0 close.1)

finite_of : (v : Float) (s : Bool) (a c : ℕ) → HasValue v s a c → T (finite v)
finite_of nan s a c v = absurd v
finite_of (inf t) s a c v = absurd v
finite_of (fin t m e) s a c v = tt

-- `nearest` of a sign and a size above 0 is the rounding of that sign and size.
nearest_is : (s : Bool) (n c : ℕ) → 0 < n → nearest (whole_of s n) c ≡ round binary64 s n c
unfolding nearest
nearest_is false n c positive = refl
nearest_is true zero c positive = absurd (lt_irrefl 0 positive)
nearest_is true (suc n) c positive = refl

-- A whole number of a size that is not zero is not zero.
not_zero : (s : Bool) (n : ℕ) → 0 < n → whole_of s n ≡ pos 0 → ⊥
not_zero s n positive none = let nought : n ≡ 0 = sym (size_of_whole s n) ∙ ap nat_abs none in omega arith

nonzero_meets : (below : Bool) (d : ℕ) (s : Bool) (n : ℕ) → d ≤ 22 → 0 < n → n < 2 ^ 308 → Meets below d (whole_of s n) (scaled_by below (power_of_ten d) (nearest (whole_of s n) (2 ^ 149)))
nonzero_meets below d s n limit positive small =
    let g = first n in
    let sum = round binary64 s n (2 ^ 149) in
    let value = round binary64 s (above below d g) (under below d (2 ^ 1074)) in
    let sum-value = first_value s n positive small in
    let last = rounding_value binary64 s (above below d g) (under below d (2 ^ 1074)) (second_small below d n positive small limit) in
    let opened : scaled_by below (power_of_ten d) (nearest (whole_of s n) (2 ^ 149)) ≡ value =
    ap (λ (v : Float). scaled_by below (power_of_ten d) v) (nearest_is s n (2 ^ 149) positive) ∙ scaled_is below d sum s g (2 ^ 1074) (pow_pos 1074) sum-value in
    let written : written_v (nearest (whole_of s n) (2 ^ 149)) ≡ whole_of s g =
    ap written_v (nearest_is s n (2 ^ 149) positive) ∙ times_is binary64 sum s g (round-fits binary64 s n (2 ^ 149)) sum-value in
    subst (Meets below d (whole_of s n)) (sym opened)
    (record {
      is_finite = finite_of value s (second below d n) (2 ^ 1074) last;
      is_near = subst (λ (z : ℤ). Near 51 below d z (whole_of s n)) (sym (times_is binary64 value s (second below d n) (round-fits binary64 s (above below d g) (under below d (2 ^ 1074))) last)) (second_near below s n d positive limit);
      is_zero = λ none. absurd (not_zero s n positive none);
      is_rounded_twice = sym (twice below written);
    })
  where
    sum_positive : 0 < first n
    sum_positive = le_trans (lit≤ tt) (first_large n positive)

    twice : (below : Bool) → written_v (nearest (whole_of s n) (2 ^ 149)) ≡ whole_of s (first n) → rounded_twice below d (whole_of s n) ≡ round binary64 s (above below d (first n)) (under below d (2 ^ 1074))
    twice false written = ap (λ (z : ℤ). nearest z (2 ^ 1074 * 10 ^ d)) written ∙ nearest_is s (first n) (2 ^ 1074 * 10 ^ d) sum_positive
    twice true written =
        ap (λ (z : ℤ). nearest (z *ℤ pos (10 ^ d)) (2 ^ 1074)) written
        ∙ ap (λ (z : ℤ). nearest z (2 ^ 1074)) (whole_times s (first n) (10 ^ d))
        ∙ nearest_is s (first n * 10 ^ d) (2 ^ 1074) (mul-pos sum_positive (ten_pos d))

-- Where S is 0 each rounding gives +0.
abbrev +0 : Float
+0 = fin false 0 (pos 0)

nearest_zero : (c : ℕ) → 0 < c → nearest (pos 0) c ≡ +0
unfolding nearest
nearest_zero c positive = round_same binary64 false 0 c 0 1 positive (zero-lt-suc 0) (sym (zero-mul c)) ∙ (unfold round in refl)

pub zero_scaled : (below : Bool) (d : ℕ) → scaled_by below (power_of_ten d) (nearest (pos 0) (2 ^ 149)) ≡ fin false 0 (pos 0)
unfolding nearest
zero_scaled below d = ap (λ (v : Float). scaled_by below (power_of_ten d) v) (nearest_zero (2 ^ 149) (pow_pos 149)) ∙ scaled_is below d +0 false 0 1 (zero-lt-suc 0) (refl, refl) ∙ go below
  where
    go : (below : Bool) → round binary64 false (above below d 0) (under below d 1) ≡ +0
    go false = nearest_zero (1 * 10 ^ d) (mul-pos (zero-lt-suc 0) (ten_pos d))
    go true = ap (λ (z : ℕ). round binary64 false z 1) (zero-mul (10 ^ d)) ∙ nearest_zero 1 (zero-lt-suc 0)

zero_meets : (below : Bool) (d : ℕ) → Meets below d (pos 0) +0
zero_meets below d = record { is_finite = tt; is_near = near below; is_zero = λ _. refl; is_rounded_twice = sym (twice below) }
  where
    nought : (k l m : ℕ) → 2 ^ 51 * (0 * k - 0 * l) ≤ m
    nought k l m = omega arith

    near : (below : Bool) → Near 51 below d (written_v +0) (pos 0)
    near false = let k = 2 ^ 149 * 10 ^ d in distance (2 ^ 51) false 0 k 0 (2 ^ 1074) 0 (nought k (2 ^ 1074) 0) (nought (2 ^ 1074) k 0)
    near true = let l = 10 ^ d * 2 ^ 1074 in distance (2 ^ 51) false 0 (2 ^ 149) 0 l (0 * l) (nought (2 ^ 149) l (0 * l)) (nought l (2 ^ 149) (0 * l))

    twice : (below : Bool) → rounded_twice below d (pos 0) ≡ +0
    twice false = ap (λ (v : Float). nearest (written_v v) (2 ^ 1074 * 10 ^ d)) (nearest_zero (2 ^ 149) (pow_pos 149)) ∙ nearest_zero (2 ^ 1074 * 10 ^ d) (mul-pos (pow_pos 1074) (ten_pos d))
    twice true =
        ap (λ (v : Float). nearest (written_v v *ℤ pos (10 ^ d)) (2 ^ 1074)) (nearest_zero (2 ^ 149) (pow_pos 149))
        ∙ ap (λ (z : ℕ). nearest (pos z) (2 ^ 1074)) (zero-mul (10 ^ d))
        ∙ nearest_zero (2 ^ 1074) (pow_pos 1074)

-- All of it, of an S below 2^308 in size.
pub roundings_meet : (below : Bool) (d : ℕ) (s : ℤ) → d ≤ 22 → nat_abs s < 2 ^ 308 → Meets below d s (scaled_by below (power_of_ten d) (nearest s (2 ^ 149)))
roundings_meet below d (pos zero) limit small = subst (Meets below d (pos 0)) (sym (zero_scaled below d)) (zero_meets below d)
roundings_meet below d (pos (suc n)) limit small = nonzero_meets below d false (suc n) limit (zero-lt-suc n) small
roundings_meet below d (negsuc n) limit small = nonzero_meets below d true (suc n) limit (zero-lt-suc n) small
