-- Laws that are not the calendar's own: orders that come back, counts that grow, and digits in pairs.
use mathlib.Core.Path.{◌≡◌}
use Prim.Native.Nat.{ℕ, zero, suc, ◌+◌, ◌*◌, ◌≤◌, ◌<◌, zero-le, suc-le-suc}
use native.Mathlib.Nat.{le_refl, le_trans}
use native.Mathlib.Omega.{arith}
use borrow.Author.Tests.{ltb-true, ltb-false}
use lib.Dec.{ltb}
use Rattle.octets.proofs.Cases.{split}

-- Where the smaller of two numbers has the smaller image, an order of the images is one of the numbers.
pub comes_back : (m n x y : ℕ) → (n < m → y < x) → x ≤ y → m ≤ n
comes_back m n x y smaller order = split (ltb n m) (λ less. absurd (omega (arith, smaller (ltb-true _ _ less)))) (ltb-false _ _)

-- A count that no step lessens is monotone.
pub grows : (count : ℕ → ℕ) → ((n : ℕ) → count n ≤ count (suc n)) → (m n : ℕ) → m ≤ n → count m ≤ count n
grows count step zero zero h = le_refl _
grows count step zero (suc n) h = le_trans (grows count step zero n zero-le) (step n)
grows count step (suc m) zero h = omega arith
grows count step (suc m) (suc n) (suc-le-suc h) = grows (λ k. count (suc k)) (λ k. step (suc k)) m n h

-- A number below 100 can be told apart from the hundreds beside it.
pub same_digits : (q r s t : ℕ) → r < 100 → t < 100 → q * 100 + r ≡ s * 100 + t → (q ≡ s) × (r ≡ t)
same_digits q r s t h k same = omega arith
