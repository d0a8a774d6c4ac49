-- The laws of greys: a larger X is no darker, the largest X is white, a present point is never black; and that a product finds a grey as the division does.
use mathlib.Core.Path.{◌≡◌, refl, sym, ap, ◌∙◌}
use Prim.Native.Nat.{ℕ, ◌+◌, ◌-◌, ◌*◌, ◌/◌, ◌≤◌, ◌<◌}
use native.Mathlib.Nat.{mul_comm, mul_assoc, mul-add, add-mul, mul-one, mul-le-mul, mul-le-mul_left, mul-le-mul_right, mul_right_comm, le_of_mul-le-mul_right, lt_of_mul-lt-mul_right, div-mul-le_self, lt-div-mul-add, le-div_iff_mul-le, mul-div_cancel}
use native.Mathlib.Omega.{arith}
use borrow.Author.Tests.{eqb-true, eqb-false, ltb-true, ltb-false}
use lib.Arith.{digits_div}
use lib.Dec.{eqb, ltb}
use Rattle.octets.proofs.Cases.{split}
use Rattle.greys.specs.declared.Scale.{Scale}
use Rattle.greys.specs.Greys.{grey_of, divisor_of, scale_of, ScaledTo}

-- Where the largest X is not 0, a grey is worked out by the division.
pub grey_divided : (largest x : ℕ) → 1 ≤ largest → grey_of largest x ≡ 1 + 254 * x / largest
grey_divided largest x some =
    split (eqb largest 0) (λ none. absurd (omega (arith, eqb-true largest 0 none))) (λ more. rw more)

-- A grey is no darker for a larger X.
pub grey_never_falls : (largest : ℕ) {x y : ℕ} → x ≤ y → grey_of largest x ≤ grey_of largest y
grey_never_falls largest {x} {y} h =
    split (eqb largest 0) (λ none. rw none (omega arith))
    (λ more.
    let some : 1 ≤ largest = omega (arith, eqb-false largest 0 more) in
    let whole : 254 * x / largest * largest ≤ 254 * y = omega (arith, div-mul-le_self (254 * x) largest) in
    let less = (le-div_iff_mul-le {k = largest} {x = 254 * x / largest} {y = 254 * y} (omega arith)).1 whole in
    rw more (omega (arith, less)))

-- The largest X is white, where it is not 0.
pub grey_of_the_largest : (largest : ℕ) → 1 ≤ largest → grey_of largest largest ≡ 255
grey_of_the_largest largest some = grey_divided largest largest some ∙ ap (λ (n : ℕ). 1 + n) (mul-div_cancel 254 (omega arith))

-- No point that is present is black, and a grey fits an octet.
pub grey_present : (largest x : ℕ) → 1 ≤ grey_of largest x
grey_present largest x = split (eqb largest 0) (λ none. rw none (omega arith)) (λ more. rw more (omega arith))

pub grey_fits : (largest x : ℕ) → x ≤ largest → grey_of largest x ≤ 255
grey_fits largest x h =
    split (eqb largest 0) (λ none. rw none (omega arith))
    (λ more. let some : 1 ≤ largest = omega (arith, eqb-false largest 0 more) in omega (arith, grey_never_falls largest h, grey_of_the_largest largest some))

-- No X is larger than 0 where the largest is, and greys by 1 are as those by 0 then.
pub grey_divisor : (largest x : ℕ) → x ≤ largest → grey_of (divisor_of largest) x ≡ grey_of largest x
grey_divisor largest x h =
    split (eqb largest 0)
    (λ none. let nought : x ≡ 0 = omega (arith, eqb-true largest 0 none) in rw (none, nought) refl)
    (λ more. let same : divisor_of largest ≡ largest = rw more in ap (λ (n : ℕ). grey_of n x) same)

pub divisor_least : (largest : ℕ) → largest ≤ divisor_of largest
divisor_least largest = split (eqb largest 0) (λ none. rw none (omega (arith, eqb-true largest 0 none))) (λ more. rw more (omega arith))

-- Let k be a little more than 254 s / m: by less than 1. Where x m is less than s, the product of x and k has 254 x / m above s.
pub share_exact : (s m x k : ℕ) → 1 ≤ m → x * m < s → 254 * s ≤ k * m → k * m ≤ 254 * s + m → x * k / s ≡ 254 * x / m
share_exact s m x k some small enough most =
    let q = 254 * x / m in
    let product : x * k * m ≡ x * (k * m) = mul_assoc x k m in
    let below : x * (254 * s) ≤ x * (k * m) = mul-le-mul_left x enough in
    let above : x * (k * m) ≤ x * (254 * s + m) = mul-le-mul_left x most in
    let sum : x * (254 * s + m) ≡ x * (254 * s) + x * m = mul-add x (254 * s) m in
    let scaled : x * (254 * s) ≡ 254 * x * s = sym (mul_assoc x 254 s) ∙ ap (λ (n : ℕ). n * s) (mul_comm x 254) in
    let least : q * m * s ≤ 254 * x * s = mul-le-mul_right s (div-mul-le_self (254 * x) m) in
    let next : 254 * x + 1 ≤ q * m + m = omega (arith, lt-div-mul-add {a = 254 * x} {b = m} (omega arith)) in
    let highest : (254 * x + 1) * s ≤ (q * m + m) * s = mul-le-mul_right s next in
    let one_more : (254 * x + 1) * s ≡ 254 * x * s + s = add-mul (254 * x) 1 s ∙ ap (λ (n : ℕ). 254 * x * s + n) (mul_comm 1 s ∙ mul-one s) in
    let turned : q * m * s ≡ q * s * m = mul_right_comm q m s in
    let turned_more : (q * m + m) * s ≡ (q * s + s) * m = add-mul (q * m) m s ∙ omega (arith, turned, mul_comm m s, add-mul (q * s) s m) in
    let low : q * s ≤ x * k = le_of_mul-le-mul_right {k = m} (omega (arith, product, below, scaled, least, turned)) (omega arith) in
    let high : x * k < q * s + s = lt_of_mul-lt-mul_right m (omega (arith, product, above, sum, scaled, highest, one_more, turned_more)) in
    let parts : x * k ≡ q * s + (x * k - q * s) = omega (arith, low) in
    ap (λ (n : ℕ). n / s) parts ∙ digits_div q {m = s} {r = x * k - q * s} (omega (arith, low, high))

-- What is shared out: 254 x 2^56, and what the share is rounded up to.
share_enough : (p m : ℕ) → 1 ≤ m → p ≤ (p / m + 1) * m
share_enough p m some = omega (arith, lt-div-mul-add {a = p} {b = m} (omega arith), add-mul (p / m) 1 m, mul_comm 1 m, mul-one m)

share_most : (p m : ℕ) → (p / m + 1) * m ≤ p + m
share_most p m = omega (arith, div-mul-le_self p m, add-mul (p / m) 1 m, mul_comm 1 m, mul-one m)

module _ (s : Scale) (scaled : ScaledTo s) {x : ℕ} (h : x ≤ s.largest) where
  -- The share, as often as the largest X says, is at least 254 x 2^56, and more by at most the largest X.
  enough : 18302628885633695744 ≤ s.share * s.largest
  enough = rw scaled.2 (share_enough 18302628885633695744 s.largest scaled.0)

  most : s.share * s.largest ≤ 18302628885633695744 + s.largest
  most = rw scaled.2 (share_most 18302628885633695744 s.largest)

  -- A product with the share stays within 64 bits.
  pub product_fits : x * s.share < 18446744073709551616
  product_fits = omega (arith, mul-le-mul_right s.share h, mul_comm s.largest s.share, most, scaled.1)

  -- Where it is large, the largest X is below 2^28.
  share_tells : 68182605825 < s.share → s.largest < 268435456
  share_tells large =
      split (ltb s.largest 268435456) (λ low. ltb-true s.largest 268435456 low)
      (λ high. absurd (omega (arith, ltb-false s.largest 268435456 high, mul-le-mul_right {m = 68182605826} {n = s.share} s.largest (omega (arith, large)), most)))

  -- Then the product has the grey above its 56 bits.
  pub product_grey : 68182605825 < s.share → x * s.share / 72057594037927936 + 1 ≡ grey_of s.largest x
  product_grey large =
      let low = share_tells large in
      let few : x ≤ 268435455 = omega (arith, h, low) in
      let small : x * s.largest ≤ 268435455 * 268435455 = mul-le-mul {m₂ = 268435455} few (omega (arith, low)) in
      let same = share_exact 72057594037927936 s.largest x s.share scaled.0 (omega (arith, small)) (omega (arith, enough)) (omega (arith, most)) in
      omega (arith, same, grey_divided s.largest x scaled.0)

-- What is made for a largest X is a scale, and has its divisor.
pub scale_scaled : (largest : ℕ) → largest ≤ 2147483647 → ScaledTo (scale_of largest)
scale_scaled largest h =
    split (eqb largest 0) (λ none. rw none (omega arith, omega arith, refl)) (λ more. rw more (omega (arith, eqb-false largest 0 more), h, refl))
