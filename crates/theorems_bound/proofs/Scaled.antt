-- The quotient by 10^d, and the product with it, of a double that is ±g / l, as one rounding of a fraction.
use mathlib.Core.Path.{◌≡◌, refl, sym, ap, ◌∙◌}
use Prim.Native.Nat.{ℕ, zero, suc, ◌*◌, ◌^◌, ◌≤◌, ◌<◌}
use native.Mathlib.Nat.{lt_irrefl, mul_comm, mul_assoc, mul_right_comm, mul-one, mul-pos, pow-suc, one-le-pow, pow-le-pow_right, mul-mul-mul_comm}
use mathlib.Core.Bool.{Bool, true, false}
use lib.IntN.{ℤ, pos}
use lib.Dec.{eqb-suc-zero, lit<}
use lib.Pow.{pow_pos}
use lib.Ieee.{Float, nan, inf, fin, binary64, up, down, round, mul, div}
use lib.Ieee.Fits.{down_pos}
use lib.Ieee.Exact.{HasValue}
use lib.Ieee.Scale.{round_same}
use Rattle.doubles.specs.Doubles.{power_of_ten, scaled_by}
use Rattle.theorems_bound.proofs.Sum.{mul_opened}

-- The double 5^d x 2^d is 10^d.
ten_is : (d : ℕ) → 5 ^ d * 2 ^ d ≡ 10 ^ d
ten_is zero = refl
ten_is (suc d) = ap (λ (x : ℕ). x * 2 ^ suc d) (pow-suc 5 d) ∙ ap (λ (x : ℕ). 5 ^ d * 5 * x) (pow-suc 2 d) ∙ mul-mul-mul_comm (5 ^ d) 5 (2 ^ d) 2 ∙ ap (λ (x : ℕ). x * 10) (ten_is d) ∙ sym (pow-suc 10 d)

five_pos : (d : ℕ) → 0 < 5 ^ d
five_pos d = one-le-pow d 5 (lit< tt)

pub ten_pos : (d : ℕ) → 0 < 10 ^ d
ten_pos d = one-le-pow d 10 (lit< tt)

pub ten_le : (d : ℕ) → d ≤ 22 → 10 ^ d ≤ 10 ^ 22
ten_le d h = pow-le-pow_right (lit< tt) h

div_opened : (s : Bool) (m : ℕ) (e : ℤ) (n : ℕ) (d : ℤ) → 0 < n → div binary64 (fin s m e) (fin false n d) ≡ round binary64 s (m * up e * down d) (n * up d * down e)
unfolding div
div_opened s m e zero d h = absurd (lt_irrefl 0 h)
div_opened false m e (suc n) d h = rw (eqb-suc-zero n)
div_opened true m e (suc n) d h = rw (eqb-suc-zero n)

div_is : (v : Float) (s : Bool) (g l d : ℕ) → 0 < l → HasValue v s g l → div binary64 v (power_of_ten d) ≡ round binary64 s g (l * 10 ^ d)
div_is nan s g l d positive v = absurd v
div_is (inf t) s g l d positive v = absurd v
div_is (fin t m e) s g l d positive v =
    let same : m * up e * 1 * (l * 10 ^ d) ≡ g * (5 ^ d * 2 ^ d * down e) =
    ap (λ (z : ℕ). z * (l * 10 ^ d)) (mul-one (m * up e))
    ∙ sym (mul_assoc (m * up e) l (10 ^ d))
    ∙ ap (λ (z : ℕ). z * 10 ^ d) v.1
    ∙ mul_assoc g (down e) (10 ^ d)
    ∙ ap (λ (z : ℕ). g * z) (mul_comm (down e) (10 ^ d) ∙ ap (λ (z : ℕ). z * down e) (sym (ten_is d))) in
    ap (λ (b : Bool). div binary64 (fin b m e) (power_of_ten d)) v.0
    ∙ div_opened s m e (5 ^ d) (pos d) (five_pos d)
    ∙ round_same binary64 s (m * up e * 1) (5 ^ d * 2 ^ d * down e) g (l * 10 ^ d) (mul-pos (mul-pos (five_pos d) (pow_pos d)) (down_pos e)) (mul-pos positive (ten_pos d)) same

mul_is : (v : Float) (s : Bool) (g l d : ℕ) → 0 < l → HasValue v s g l → mul binary64 v (power_of_ten d) ≡ round binary64 s (g * 10 ^ d) l
mul_is nan s g l d positive v = absurd v
mul_is (inf t) s g l d positive v = absurd v
mul_is (fin t m e) s g l d positive v =
    let same : m * up e * (5 ^ d * 2 ^ d) * l ≡ g * 10 ^ d * (down e * 1) =
    ap (λ (z : ℕ). m * up e * z * l) (ten_is d)
    ∙ mul_right_comm (m * up e) (10 ^ d) l
    ∙ ap (λ (z : ℕ). z * 10 ^ d) v.1
    ∙ mul_right_comm g (down e) (10 ^ d)
    ∙ ap (λ (z : ℕ). g * 10 ^ d * z) (sym (mul-one (down e))) in
    ap (λ (b : Bool). mul binary64 (fin b m e) (power_of_ten d)) v.0
    ∙ mul_opened s m e (5 ^ d) (pos d)
    ∙ round_same binary64 s (m * up e * (5 ^ d * 2 ^ d)) (down e * 1) (g * 10 ^ d) l (mul-pos (down_pos e) (pow_pos 0)) positive same

-- The fraction that is rounded, by the sign of D: g / (l x 10^d), or g x 10^d / l.
abbrev pub above : Bool → ℕ → ℕ → ℕ
above false d g = g
above true d g = g * 10 ^ d

abbrev pub under : Bool → ℕ → ℕ → ℕ
under false d l = l * 10 ^ d
under true d l = l

pub scaled_is : (below : Bool) (d : ℕ) (v : Float) (s : Bool) (g l : ℕ) → 0 < l → HasValue v s g l → scaled_by below (power_of_ten d) v ≡ round binary64 s (above below d g) (under below d l)
unfolding scaled_by
scaled_is false d v s g l positive value = div_is v s g l d positive value
scaled_is true d v s g l positive value = mul_is v s g l d positive value
