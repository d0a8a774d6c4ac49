-- The laws of whole numbers with a sign, for the proofs of every layer.
use mathlib.Core.Path.{◌≡◌, sym, ap, ◌∙◌}
use mathlib.Core.Bool.{true}
use Prim.Native.Nat.{ℕ, zero, suc, ◌+◌, ◌-◌, ◌≤◌}
use native.Mathlib.Nat.{add-suc}
use native.Mathlib.Omega.{arith}
use borrow.Author.Tests.{lt-ltb, le-ltb}
use lib.IntN.{ℤ, pos, negsuc, neg_ℤ, ◌+ℤ◌, ◌-ℤ◌, neg_ℤ-+ℤ, +ℤ_assoc}
use Rattle.octets.specs.Numbers.{whole_of}

-- A number less another that is smaller, less another that is larger, and less a sum.
pub minus_less : (m n : ℕ) → n ≤ m → pos m -ℤ pos n ≡ pos (m - n)
minus_less m zero h = ap pos (omega arith)
minus_less m (suc n) h = rw (le-ltb m (suc n) h)

pub minus_more : (m n : ℕ) → pos m -ℤ pos (m + n) ≡ whole_of true n
minus_more m zero = minus_less m (m + 0) (omega arith) ∙ ap pos (omega arith)
minus_more m (suc n) = rw (add-suc m n, lt-ltb m (suc (m + n)) (omega arith)) (ap negsuc (omega arith))

pub minus_sum : (z : ℤ) (m n : ℕ) → z -ℤ pos (m + n) ≡ z -ℤ pos m -ℤ pos n
minus_sum z m n = ap (λ (k : ℤ). z +ℤ k) (neg_ℤ-+ℤ (pos m) (pos n)) ∙ sym (+ℤ_assoc z (neg_ℤ (pos m)) (neg_ℤ (pos n)))
