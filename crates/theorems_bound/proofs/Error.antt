-- The error of one rounding in the normal range is at most one part in 2 ^ prec of the fraction, and that of two roundings to 53 digits, one
-- after the other, is at most one part in 2^51.
use mathlib.Core.Path.{◌≡◌, sym, ap, ◌∙◌, subst}
use Prim.Native.Nat.{ℕ, suc, ◌+◌, ◌-◌, ◌*◌, ◌/◌, ◌%◌, ◌^◌, ◌≤◌, ◌<◌, compare, Ordering}
use native.Mathlib.Nat.{le_trans, le_of_eq, one-mul, mul_comm, mul_assoc, mul_left_comm, mul_right_comm, add-mul, suc-mul, mul-le-mul_right, le_of_mul-le-mul_right, mul-pos, pow-suc, mod-lt, div-add-mod', le-div_iff_mul-le}
use native.Mathlib.Omega.{arith}
use mathlib.Core.Bool.{Bool, not}
use lib.Dec.{T, is_le, compare_is_eq, eqb, leb→le, nleb→lt, eqb→eq, eqb_refl}
use lib.Arith.{lt_of_le-ne}
use lib.Pow.{pow-add, pow_pos}
use lib.Ieee.{Float, Format, prec, low, size, nearest, round}
use lib.Ieee.Digits.{size_reaches}
use lib.Ieee.Fits.{round_is, two, two-le_pos}
use lib.Ieee.Exact.{HasValue, units_val}
use lib.Ieee.Nearest.{closest}
use lib.Ieee.Order.{drop, kept}
use lib.Ieee.Scale.{grid, overflow}

-- The number a is within one part in 2^p of b.
pub record Close (p a b : ℕ) : Type 0 where
  pub low : b * 2 ^ p ≤ a * 2 ^ p + b
  pub high : a * 2 ^ p ≤ b * 2 ^ p + b

abbrev Ordered : Ordering → ℕ → ℕ → Type 0
Ordered Ordering.lt a b = a < b
Ordered Ordering.eq a b = a ≡ b
Ordered Ordering.gt a b = b < a

ordered : (a b : ℕ) → Ordered (compare a b) a b
ordered a b = go (compare a b) (leb→le a b) (nleb→lt a b) (eqb→eq a b) (λ (e : a ≡ b). subst (λ (x : ℕ). T (eqb a x)) e (eqb_refl a))
  where
    go : (o : Ordering) → (T (is_le o) → a ≤ b) → (T (not (is_le o)) → b < a) → (T (compare_is_eq o) → a ≡ b) → (a ≡ b → T (compare_is_eq o)) → Ordered o a b
    go Ordering.lt h k e n = lt_of_le-ne (h tt) n
    go Ordering.eq h k e n = e tt
    go Ordering.gt h k e n = k tt

-- The nearest multiple of u is at most half of u away.
half : (q r u : ℕ) (o : Ordering) → r < u → Ordered o (r * 2) u → ((q * u + r) * 2 ≤ nearest q o * u * 2 + u) × (nearest q o * u * 2 ≤ (q * u + r) * 2 + u)
half q r u Ordering.lt remainder h = omega arith
half q r u Ordering.eq remainder h = omega (arith, add-mul q (q % 2) u, bit (q % 2) u (mod-lt q (pow_pos 1)))
  where
    bit : (b u : ℕ) → b < 2 → b * u ≤ u
    bit b u h = le_trans (mul-le-mul_right u (one_at_most b h)) (le_of_eq (one-mul u))
      where
        one_at_most : (b : ℕ) → b < 2 → b ≤ 1
        one_at_most b h = omega arith
half q r u Ordering.gt remainder h = omega (arith, suc-mul q u)

closest_half : (n u : ℕ) → 0 < u → (n * 2 ≤ closest n u * u * 2 + u) × (closest n u * u * 2 ≤ n * 2 + u)
closest_half n u positive = subst (λ (x : ℕ). (x * 2 ≤ closest n u * u * 2 + u) × (closest n u * u * 2 ≤ x * 2 + u)) (div-add-mod' n u) (half (n / u) (n % u) u (compare (n % u * 2) u) (mod-lt n positive) (ordered (n % u * 2) u))

-- Where n is h times u at least, half of u is one part in twice h of n.
widened : (n x y u h : ℕ) → u * h ≤ n → x * 2 ≤ y * 2 + u → x * (h * 2) ≤ y * (h * 2) + n
widened n x y u h large near =
    let wide : x * (h * 2) ≤ y * (h * 2) + u * h =
    le_trans (le_of_eq (simp (mul_assoc, mul_comm, mul_left_comm))) (le_trans (mul-le-mul_right h near) (le_of_eq (add-mul (y * 2) u h ∙ ap (λ (z : ℕ). z + u * h) (simp (mul_assoc, mul_comm, mul_left_comm))))) in
    omega arith

-- One rounding of a / c in the normal range: in units of the smallest value its whole part has all the digits that the format keeps.
pub rounding_close : (f : Format) (a c : ℕ) → 0 < c → prec f ≤ size (a * 2 ^ low f / c) → Close (prec f) (grid f a c * c) (a * 2 ^ low f)
rounding_close f a c positive normal =
    let p = prec f in
    let digits : 0 < p = two-le_pos p (two f) in
    let n = a * 2 ^ low f in
    let k = drop p n c in
    let u = c * 2 ^ k in
    let q = kept p n c in
    let h = 2 ^ (p - 1) in
    let twofold : h * 2 ≡ 2 ^ p = sym (pow-suc 2 (p - 1)) ∙ ap (λ (x : ℕ). 2 ^ x) (next p digits) in
    let multiple : q * u ≡ q * 2 ^ k * c = ap (λ (x : ℕ). q * x) (mul_comm c (2 ^ k)) ∙ sym (mul_assoc q (2 ^ k) c) in
    let large : u * h ≤ n =
    le_trans (le_of_eq (mul_assoc c (2 ^ k) h ∙ mul_comm c (2 ^ k * h) ∙ ap (λ (x : ℕ). x * c) (mul_comm (2 ^ k) h ∙ sym (pow-add 2 (p - 1) k))))
    ((le-div_iff_mul-le positive).0 (size_reaches (n / c) (p - 1 + k) (top_place p (size (n / c)) digits normal))) in
    let near = closest_half n u (mul-pos positive (pow_pos k)) in
    record {
      low = subst (λ (x : ℕ). n * x ≤ grid f a c * c * x + n) twofold (subst (λ (x : ℕ). n * (h * 2) ≤ x * (h * 2) + n) multiple (widened n n (q * u) u h large near.0));
      high = subst (λ (x : ℕ). grid f a c * c * x ≤ n * x + n) twofold (subst (λ (x : ℕ). x * (h * 2) ≤ n * (h * 2) + n) multiple (widened n (q * u) n u h large near.1));
    }
  where
    next : (p : ℕ) → 0 < p → suc (p - 1) ≡ p
    next p h = omega arith

    top_place : (p z : ℕ) → 0 < p → p ≤ z → p - 1 + (z - p) < z
    top_place p z positive h = omega arith

-- Below the overflow a rounding has the sign it is given and the size of the grid.
pub rounding_value : (f : Format) (s : Bool) (a c : ℕ) → grid f a c < overflow f → HasValue (round f s a c) s (grid f a c) (2 ^ low f)
rounding_value f s a c h = subst (λ (z : Float). HasValue z s (grid f a c) (2 ^ low f)) (sym (round_is f s a c)) (units_val f s (kept (prec f) (a * 2 ^ low f) c) (drop (prec f) (a * 2 ^ low f) c) h)

-- What is close to b is at most twice b and at least half of it.
pub under_double : (a b : ℕ) → Close 53 a b → a ≤ b + b
under_double a b h = omega arith

pub over_half : (a b : ℕ) → Close 53 a b → b ≤ a + a
over_half a b h = omega arith

-- A factor can be put on both, and taken off both.
spread : (x y z k P : ℕ) → x * P ≤ y * P + z → x * k * P ≤ y * k * P + z * k
spread x y z k P h = le_trans (le_of_eq (mul_right_comm x k P)) (le_trans (mul-le-mul_right k h) (le_of_eq (add-mul (y * P) z k ∙ ap (λ (w : ℕ). w + z * k) (mul_right_comm y P k))))

gathered : (x y z k P : ℕ) → 0 < k → x * k * P ≤ y * k * P + z * k → x * P ≤ y * P + z
gathered x y z k P positive h = le_of_mul-le-mul_right (le_trans (le_of_eq (mul_right_comm x P k)) (le_trans h (le_of_eq (ap (λ (w : ℕ). w + z * k) (mul_right_comm y k P) ∙ sym (add-mul (y * P) z k))))) positive

pub close_times : (p a b k : ℕ) → Close p a b → Close p (a * k) (b * k)
close_times p a b k h = record { low = spread b a b k (2 ^ p) h.low; high = spread a b b k (2 ^ p) h.high }

pub close_cancel : (p a b k : ℕ) → 0 < k → Close p (a * k) (b * k) → Close p a b
close_cancel p a b k positive h = record { low = gathered b a b k (2 ^ p) positive h.low; high = gathered a b b k (2 ^ p) positive h.high }

-- Two roundings. `omega` keeps to numbers of 38 digits, so A, B and N stand for 2^51 times a, b and n.
pub twice_close : (a b n : ℕ) → Close 53 a b → Close 53 b n → (2 ^ 51 * (a - n) ≤ n) × (2 ^ 51 * (n - a) ≤ n)
twice_close a b n h k =
    let t = parts b n (a * 2 ^ 51) (b * 2 ^ 51) (n * 2 ^ 51) (under_double b n k) (quarter b a b h.low) (quarter a b b h.high) (quarter n b n k.low) (quarter b n n k.high) in
    (difference a n n t.0, difference n a n t.1)
  where
    parts : (b n A B N : ℕ) → b ≤ n + n → 4 * B ≤ 4 * A + b → 4 * A ≤ 4 * B + b → 4 * N ≤ 4 * B + n → 4 * B ≤ 4 * N + n → (A - N ≤ n) × (N - A ≤ n)
    parts b n A B N d p q r s = omega arith

    quarter : (x y z : ℕ) → x * 2 ^ 53 ≤ y * 2 ^ 53 + z → 4 * (x * 2 ^ 51) ≤ 4 * (y * 2 ^ 51) + z
    quarter x y z h = omega arith

    difference : (x y z : ℕ) → x * 2 ^ 51 - y * 2 ^ 51 ≤ z → 2 ^ 51 * (x - y) ≤ z
    difference x y z h = omega arith
