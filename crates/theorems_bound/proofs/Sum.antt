-- R + X x 2^E as the rebuild computes it: the product is exact, and the sum is one rounding of S / 2^149.
use mathlib.Core.Path.{◌≡◌, refl, sym, ap, ◌∙◌, subst}
use Prim.Native.Nat.{ℕ, zero, suc, ◌+◌, ◌-◌, ◌*◌, ◌^◌, ◌≤◌, ◌<◌}
use native.Mathlib.Nat.{le_refl, le_trans, le_of_eq, le_of_lt, lt_of_lt_of_le, lt_of_le_of_lt, mul_comm, mul_assoc, mul_left_comm, mul_right_comm, mul-one, one-mul, add-mul, mul-sub, mul-le-mul_right, mul-pos, lt_of_mul-lt-mul_right, le_of_mul-le-mul_right, eq_of_mul-eq-mul_right, mul-lt-mul_of_pos_right}
use native.Mathlib.Omega.{arith}
use mathlib.Core.Bool.{Bool, true, false, not, cond}
use lib.IntN.{ℤ, pos, nat_abs, ◌+ℤ◌}
use lib.Dec.{T, ltb, ltb→lt, nltb→le, lit≤}
use lib.Pow.{pow_pos, pow_mono, add-lt-pow, shl_lt}
use lib.Ieee.{Float, nan, inf, fin, binary32, binary64, up, down, round, sum, add, mul, of_int, fits, of_bits}
use lib.Ieee.Fits.{down_pos}
use lib.Ieee.Bits.{of_bits-fits}
use lib.Ieee.Exact.{HasValue, round_exact}
use lib.Ieee.Back.{round_whole}
use lib.Ieee.Scale.{round_same, finite}
use Rattle.octets.specs.declared.Signed.{Signed}
use Rattle.octets.specs.Numbers.{whole_of, whole}
use Rattle.doubles.specs.Doubles.{power_of_two, sum_of}
use Rattle.theorems_bound.specs.Bound.{raised, times2^, exact_s, nearest, InLimits}
use Rattle.theorems_bound.proofs.Whole.{held, raised_is, whole_from}
use Rattle.theorems_bound.proofs.Distance.{minus_below, minus_above, gap}

-- From one fraction to another of the same size.
rescaled : (v : Float) (s : Bool) (w l numerator denominator : ℕ) → 0 < l → numerator * l ≡ w * denominator → HasValue v s w l → HasValue v s numerator denominator
rescaled nan s w l numerator denominator positive same v = v
rescaled (inf t) s w l numerator denominator positive same v = v
rescaled (fin t m e) s w l numerator denominator positive same v = (
  v.0,
  eq_of_mul-eq-mul_right l positive (m * up e * denominator) (numerator * down e)
      (mul_right_comm (m * up e) denominator l
      ∙ ap (λ (x : ℕ). x * denominator) v.1
      ∙ mul_right_comm w (down e) denominator
      ∙ ap (λ (x : ℕ). x * down e) (sym same)
      ∙ mul_right_comm numerator l (down e)),
)

-- A / C and B / C are a / c and b / c.
record Fractions (A B C a b c : ℕ) : Type 0 where
  divisor : 0 < C
  other_divisor : 0 < c
  first : A * c ≡ a * C
  second : B * c ≡ b * C

swapped : {A B C a b c : ℕ} → Fractions A B C a b c → Fractions B A C b a c
swapped h = record { divisor = h.divisor; other_divisor = h.other_divisor; first = h.second; second = h.first }

ordered : {A B C a b c : ℕ} → Fractions A B C a b c → A ≤ B → a ≤ b
ordered {c} h below = le_of_mul-le-mul_right (le_trans (le_of_eq (sym h.first)) (le_trans (mul-le-mul_right c below) (le_of_eq h.second))) h.divisor

strictly_ordered : {A B C a b c : ℕ} → Fractions A B C a b c → A < B → a < b
strictly_ordered {A} {B} {C} {a} {b} {c} h below = lt_of_mul-lt-mul_right C (subst (λ (x : ℕ). x < b * C) h.first (subst (λ (x : ℕ). A * c < x) h.second (mul-lt-mul_of_pos_right below h.other_divisor)))

difference : {A B C a b c : ℕ} → Fractions A B C a b c → (B - A) * c ≡ (b - a) * C
difference {A} {B} {C} {a} {b} {c} h = sub_mul B A c ∙ ap (λ (x : ℕ). x - A * c) h.second ∙ ap (λ (x : ℕ). b * C - x) h.first ∙ sym (sub_mul b a C)
  where
    sub_mul : (n m k : ℕ) → (n - m) * k ≡ n * k - m * k
    sub_mul n m k = mul_comm (n - m) k ∙ mul-sub k n m ∙ ap (λ (x : ℕ). x - k * m) (mul_comm k n) ∙ ap (λ (x : ℕ). n * k - x) (mul_comm k m)

-- The sum of ±A / C and B / C is one rounding of (±a + b) / c.
sum_is : (s : Bool) (A B C a b c : ℕ) → Fractions A B C a b c → sum binary64 s A false B C ≡ nearest (whole_of s a +ℤ pos b) c
unfolding sum nearest
sum_is false A B C a b c h =
    round_same binary64 false (A + B) C (a + b) c h.divisor h.other_divisor
    (add-mul A B c ∙ ap (λ (x : ℕ). x + B * c) h.first ∙ ap (λ (x : ℕ). a * C + x) h.second ∙ sym (add-mul a b C))
sum_is true A B C a b c h = go (ltb A B) (ltb B A) (ltb→lt A B) (nltb→le A B) (ltb→lt B A) (nltb→le B A)
  where
    level : (a b : ℕ) → a ≤ b → b ≤ a → a - b ≡ b - a
    level a b above below = omega arith

    positive : (a b : ℕ) → b < a → a - b ≡ suc (a - suc b)
    positive a b above = omega arith

    go : (x y : Bool) → (T x → A < B) → (T (not x) → B ≤ A) → (T y → B < A) → (T (not y) → A ≤ B)
        → cond x (round binary64 false (B - A) C) (round binary64 y (A - B) C) ≡ nearest (whole_of true a +ℤ pos b) c
    go true y less not-less greater not-greater =
        round_same binary64 false (B - A) C (b - a) c h.divisor h.other_divisor (difference h)
        ∙ ap (λ (z : ℤ). nearest z c) (sym (minus_below a b (ordered h (le_of_lt (less tt)))))
    go false true less not-less greater not-greater =
        let above : b < a = strictly_ordered (swapped h) (greater tt) in
        round_same binary64 true (A - B) C (a - b) c h.divisor h.other_divisor (difference (swapped h))
        ∙ ap (λ (z : ℕ). round binary64 true z c) (positive a b above)
        ∙ ap (λ (z : ℤ). nearest z c) (sym (minus_above a b above))
    go false false less not-less greater not-greater =
        let below : a ≤ b = ordered h (not-greater tt) in
        round_same binary64 false (A - B) C (a - b) c h.divisor h.other_divisor (difference (swapped h))
        ∙ ap (λ (z : ℕ). round binary64 false z c) (level a b below (ordered (swapped h) (not-less tt)))
        ∙ ap (λ (z : ℤ). nearest z c) (sym (minus_below a b below))

add_opened : (s : Bool) (m : ℕ) (e : ℤ) (n : ℕ) (d : ℤ) → add binary64 (fin s m e) (fin false n d) ≡ sum binary64 s (m * up e * down d) false (n * up d * down e) (down e * down d)
unfolding add
add_opened s m e n d = refl

-- R + Y for a Y that is not negative, where R is ±a / c and Y is b / c.
add_is : (x y : Float) (s : Bool) (a b c : ℕ) → 0 < c → HasValue x s a c → HasValue y false b c → add binary64 x y ≡ nearest (whole_of s a +ℤ pos b) c
add_is nan y s a b c positive v w = absurd v
add_is (inf t) y s a b c positive v w = absurd v
add_is (fin t m e) nan s a b c positive v w = absurd w
add_is (fin t m e) (inf u) s a b c positive v w = absurd w
add_is (fin t m e) (fin u n d) s a b c positive v w =
    (λ i. add binary64 (fin (v.0 i) m e) (fin (w.0 i) n d))
    ∙ add_opened s m e n d
    ∙ sum_is s (m * up e * down d) (n * up d * down e) (down e * down d) a b c
    (record {
      divisor = mul-pos (down_pos e) (down_pos d);
      other_divisor = positive;
      first = mul_right_comm (m * up e) (down d) c ∙ ap (λ (x : ℕ). x * down d) v.1 ∙ mul_assoc a (down e) (down d);
      second = mul_right_comm (n * up d) (down e) c ∙ ap (λ (x : ℕ). x * down e) w.1 ∙ mul_assoc b (down d) (down e) ∙ ap (λ (x : ℕ). b * x) (mul_comm (down d) (down e));
    })

-- A product with a factor that is not negative is one rounding of a fraction.
pub mul_opened : (s : Bool) (m : ℕ) (e : ℤ) (n : ℕ) (d : ℤ) → mul binary64 (fin s m e) (fin false n d) ≡ round binary64 s (m * up e * (n * up d)) (down e * down d)
unfolding mul
mul_opened false m e n d = refl
mul_opened true m e n d = refl

-- X x 2^E is exact.
product_exact : (x : ℕ) (e : ℤ) → x < 2 ^ 53 → down e ≤ 2 ^ 149 → raised 1074 e ≤ 1201 → HasValue (mul binary64 (of_int binary64 (pos x)) (power_of_two e)) false (x * 2 ^ raised 149 e) (2 ^ 149)
unfolding of_int
product_exact x e small on_grid below = go (round binary64 false x 1) (round_whole binary64 false x (le_of_lt small))
  where
    room : (j : ℕ) → j ≤ 1201 → 53 + j ≤ 2098
    room j h = omega arith

    fraction : (m u d x w D g l : ℕ) → m * u * 1 ≡ x * d → w * l ≡ g * D → m * u * (1 * w) * l ≡ x * g * (d * D)
    fraction m u d x w D g l p q =
        ap (λ (z : ℕ). m * u * z * l) (one-mul w) ∙ mul_assoc (m * u) w l ∙ ap (λ (z : ℕ). m * u * z) q ∙ ap (λ (z : ℕ). z * (g * D)) (sym (mul-one (m * u)) ∙ p) ∙ simp (mul_assoc, mul_comm, mul_left_comm)

    go : (y : Float) → HasValue y false x 1 → HasValue (mul binary64 y (power_of_two e)) false (x * 2 ^ raised 149 e) (2 ^ 149)
    go nan v = absurd v
    go (inf s) v = absurd v
    go (fin s m k) v =
        let numerator = m * up k * (1 * up e) in
        let denominator = down k * down e in
        let positive : 0 < denominator = mul-pos (down_pos k) (down_pos e) in
        let below_end : x * 2 ^ raised 1074 e < 2 ^ 2098 = lt_of_lt_of_le (shl_lt 53 (raised 1074 e) small) (pow_mono (room (raised 1074 e) below)) in
        let same : (l : ℕ) → down e ≤ 2 ^ l → numerator * 2 ^ l ≡ x * 2 ^ raised l e * denominator = λ l h. fraction m (up k) (down k) x (up e) (down e) (2 ^ raised l e) (2 ^ l) v.1 (raised_is l e h) in
        subst (λ (z : Float). HasValue z false (x * 2 ^ raised 149 e) (2 ^ 149)) (sym (ap (λ (b : Bool). mul binary64 (fin b m k) (power_of_two e)) v.0 ∙ mul_opened false m k 1 e))
        (rescaled (round binary64 false numerator denominator) false numerator denominator (x * 2 ^ raised 149 e) (2 ^ 149) positive (sym (same 149 on_grid))
        (round_exact binary64 false numerator denominator x (raised 1074 e) positive small below_end (same 1074 (le_trans on_grid (lit≤ tt)))))

-- For E from -127 to 127 nothing of 2^149 x 2^E is cut off, and it is not too large.
pub power_on_grid : (negative : Bool) (e : ℕ) → e ≤ 127 → down (whole_of negative e) ≤ 2 ^ 149
power_on_grid false e h = pow_pos 149
power_on_grid true zero h = pow_pos 149
power_on_grid true (suc e) h = pow_mono {j = 149} (le_trans h (lit≤ tt))

raised_le : (l : ℕ) (negative : Bool) (e : ℕ) → raised l (whole_of negative e) ≤ l + e
raised_le l false e = le_refl (l + e)
raised_le l true zero = le_refl (l + 0)
raised_le l true (suc e) = omega arith

-- R has a size below 2^277 of the units 2^-149, X x 2^E one below 2^307, and so S is below 2^308.
reference_size : (s : Bool) (m : ℕ) (e : ℤ) → T (fits binary32 (fin s m e)) → m * 2 ^ raised 149 e < 2 ^ 277
reference_size s m e t =
    let fit = held binary32 s m e t in
    lt_of_mul-lt-mul_right (down e)
    (subst (λ (z : ℕ). z < 2 ^ 277 * down e) (whole_from 149 m e fit.on_grid)
    (lt_of_lt_of_le (mul-lt-mul_of_pos_right fit.below_end (pow_pos 149)) (le_of_eq (mul_right_comm (2 ^ 128) (down e) (2 ^ 149)))))

product_size : (negative : Bool) (e x : ℕ) → e ≤ 127 → x < 2 ^ 31 → x * 2 ^ raised 149 (whole_of negative e) < 2 ^ 307
product_size negative e x h k = lt_of_lt_of_le (shl_lt 31 (raised 149 (whole_of negative e)) k) (pow_mono (room (raised 149 (whole_of negative e)) e (raised_le 149 negative e) h))
  where
    room : (j e : ℕ) → j ≤ 149 + e → e ≤ 127 → 31 + j ≤ 307
    room j e h k = omega arith

sum_size : (s : Bool) (a b : ℕ) → nat_abs (whole_of s a +ℤ pos b) ≤ a + b
sum_size false a b = le_refl (a + b)
sum_size true a b = le_trans (le_of_eq (gap a b)) (both a b)
  where
    both : (a b : ℕ) → (b - a) + (a - b) ≤ a + b
    both a b = omega arith

-- The sum and the size of S, for any single in place of R.
module _ (negative : Bool) (e x : ℕ) (small : e ≤ 127) (packed : x < 2 ^ 31) where
  abbrev exact : Float → ℤ
  exact v = times2^ 149 v +ℤ pos (x * 2 ^ raised 149 (whole_of negative e))

  nearest_of : (v : Float) → T (finite v) → T (fits binary32 v) → sum_of v (power_of_two (whole_of negative e)) x ≡ nearest (exact v) (2 ^ 149)
  unfolding sum_of
  nearest_of nan number t = absurd number
  nearest_of (inf s) number t = absurd number
  nearest_of (fin s m k) number t =
      let E = whole_of negative e in
      add_is (fin s m k) (mul binary64 (of_int binary64 (pos x)) (power_of_two E)) s (m * 2 ^ raised 149 k) (x * 2 ^ raised 149 E) (2 ^ 149) (pow_pos 149)
      (refl, whole_from 149 m k (held binary32 s m k t).on_grid)
      (product_exact x E (lt_of_lt_of_le packed (lit≤ tt)) (power_on_grid negative e small) (le_trans (raised_le 1074 negative e) (omega arith)))

  size_of : (v : Float) → T (finite v) → T (fits binary32 v) → nat_abs (exact v) < 2 ^ 308
  size_of nan number t = absurd number
  size_of (inf s) number t = absurd number
  size_of (fin s m k) number t =
      lt_of_le_of_lt (sum_size s (m * 2 ^ raised 149 k) (x * 2 ^ raised 149 (whole_of negative e)))
      (add-lt-pow 307 (lt_of_lt_of_le (reference_size s m k t) (lit≤ tt)) (product_size negative e x small packed))

-- The same for R, within the limits.
module _ (r : ℕ) (e d : Signed) (x : ℕ) (limits : InLimits r e d x) where
  packed_below : x < 2 ^ 31
  packed_below = omega arith

  pub sum_is_nearest : sum_of (of_bits binary32 r) (power_of_two (whole e)) x ≡ nearest (exact_s r e x) (2 ^ 149)
  sum_is_nearest = nearest_of e.negative e.size x limits.scaled.e127 packed_below (of_bits binary32 r) limits.scaled.finite_r (of_bits-fits binary32 r)

  pub exact_is_small : nat_abs (exact_s r e x) < 2 ^ 308
  exact_is_small = size_of e.negative e.size x limits.scaled.e127 packed_below (of_bits binary32 r) limits.scaled.finite_r (of_bits-fits binary32 r)
