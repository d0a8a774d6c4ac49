-- The distance of two whole numbers with a sign, by their sizes.
use mathlib.Core.Path.{◌≡◌, refl, sym, ap, ◌∙◌, subst}
use Prim.Native.Nat.{ℕ, zero, suc, ◌+◌, ◌-◌, ◌*◌, ◌≤◌, ◌<◌}
use native.Mathlib.Nat.{zero-mul, not-suc-le-zero}
use native.Mathlib.Omega.{arith}
use mathlib.Core.Bool.{Bool, true, false, not}
use borrow.Author.Tests.{lt-ltb, le-ltb}
use lib.IntN.{ℤ, pos, negsuc, neg_ℤ, nat_abs, ◌+ℤ◌, ◌-ℤ◌, ◌*ℤ◌, neg_ℤ-neg_ℤ, +ℤ_comm}
use lib.Dec.{T, leb, leb→le, nleb→lt}
use Rattle.octets.specs.Numbers.{whole_of}

pub minus_below : (a b : ℕ) → a ≤ b → whole_of true a +ℤ pos b ≡ pos (b - a)
minus_below zero b h = ap pos (omega arith)
minus_below (suc a) b h = rw (le-ltb b (suc a) h)

pub minus_above : (a b : ℕ) → b < a → whole_of true a +ℤ pos b ≡ negsuc (a - suc b)
minus_above zero b h = absurd (not-suc-le-zero h)
minus_above (suc a) b h = rw (lt-ltb b (suc a) h)

-- One of the two differences is 0, and their sum is the distance.
pub gap : (a n : ℕ) → nat_abs (whole_of true a +ℤ pos n) ≡ (n - a) + (a - n)
gap a n = go (leb a n) (leb→le a n) (nleb→lt a n)
  where
    level : (a n : ℕ) → a ≤ n → n - a ≡ (n - a) + (a - n)
    level a n h = omega arith

    over : (a n : ℕ) → n < a → suc (a - suc n) ≡ (n - a) + (a - n)
    over a n h = omega arith

    go : (b : Bool) → (T b → a ≤ n) → (T (not b) → n < a) → nat_abs (whole_of true a +ℤ pos n) ≡ (n - a) + (a - n)
    go true h k = ap nat_abs (minus_below a n (h tt)) ∙ level a n (h tt)
    go false h k = ap nat_abs (minus_above a n (k tt)) ∙ over a n (k tt)

apart : (s : Bool) (a n : ℕ) → nat_abs (whole_of s a -ℤ whole_of s n) ≡ (a - n) + (n - a)
apart false a n = ap nat_abs (+ℤ_comm (pos a) (neg_ℤ (pos n))) ∙ gap n a
apart true a n = ap (λ (z : ℤ). nat_abs (whole_of true a +ℤ z)) (neg_ℤ-neg_ℤ (pos n)) ∙ gap a n ∙ swap (n - a) (a - n)
  where
    swap : (x y : ℕ) → x + y ≡ y + x
    swap x y = omega arith

pub whole_times : (s : Bool) (g k : ℕ) → whole_of s g *ℤ pos k ≡ whole_of s (g * k)
whole_times false g k = refl
whole_times true zero k = rw zero-mul
whole_times true (suc g) k = refl

pub size_of_whole : (s : Bool) (n : ℕ) → nat_abs (whole_of s n) ≡ n
size_of_whole false n = refl
size_of_whole true zero = refl
size_of_whole true (suc n) = refl

one_side : (P a n m : ℕ) → P * (a - n) ≤ m → P * (n - a) ≤ m → P * ((a - n) + (n - a)) ≤ m
one_side P a n m h k = go (leb a n) (leb→le a n) (nleb→lt a n)
  where
    left : (a n : ℕ) → a ≤ n → (a - n) + (n - a) ≡ n - a
    left a n h = omega arith

    right : (a n : ℕ) → n < a → (a - n) + (n - a) ≡ a - n
    right a n h = omega arith

    go : (b : Bool) → (T b → a ≤ n) → (T (not b) → n < a) → P * ((a - n) + (n - a)) ≤ m
    go true x y = subst (λ (z : ℕ). P * z ≤ m) (sym (left a n (x tt))) k
    go false x y = subst (λ (z : ℕ). P * z ≤ m) (sym (right a n (y tt))) h

-- P times the distance is at most m where P times either difference is.
pub distance : (P : ℕ) (s : Bool) (g k n l m : ℕ) → P * (g * k - n * l) ≤ m → P * (n * l - g * k) ≤ m → P * nat_abs (whole_of s g *ℤ pos k -ℤ whole_of s n *ℤ pos l) ≤ m
distance P s g k n l m p q =
    subst (λ (z : ℤ). P * nat_abs (z -ℤ whole_of s n *ℤ pos l) ≤ m) (sym (whole_times s g k))
    (subst (λ (z : ℤ). P * nat_abs (whole_of s (g * k) -ℤ z) ≤ m) (sym (whole_times s n l))
    (subst (λ (z : ℕ). P * z ≤ m) (sym (apart s (g * k) (n * l))) (one_side P (g * k) (n * l) m p q)))
