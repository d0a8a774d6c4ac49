-- The laws of the largest of some integers.
use mathlib.Core.Path.{◌≡◌, refl, sym, ap, ap₂, ◌∙◌}
use mathlib.Core.List.{List}
use Rattle.std.specs.Prelude.{max}
use Prim.Native.Nat.{ℕ, zero, suc, ◌+◌, ◌*◌, ◌≤◌, ◌<◌}
use native.Mathlib.Nat.{add-zero, add-suc, lt_of_lt_of_le}
use native.Mathlib.Numerals.{add-one}
use native.Mathlib.Omega.{arith}
use lib.Pow.{pow_mono}
use Rattle.octets.specs.Places.{first_bit}
use Rattle.bits.proofs.Laws.{bits_lt}
use Rattle.values_group.specs.Group.{most_x}
use Rattle.values_integers.specs.Integers.{simple_integer}
use Rattle.values_largest.specs.Largest.{largest_from, largest_of}

-- One integer more, and four.
pub largest_next : (found : ℕ) (x : ℕ → ℕ) (n : ℕ) {m : ℕ} → m ≡ n + 1 → largest_from found x m ≡ max (largest_from found x n) (x n)
unfolding largest_from
largest_next found x n more = ap (largest_from found x) (more ∙ add-one n)

pub largest_four : (found : ℕ) (x : ℕ → ℕ) (n : ℕ) →
    largest_from found x (n + 4) ≡ max (max (max (max (largest_from found x n) (x n)) (x (n + 1))) (x (n + 2))) (x (n + 3))
largest_four found x n =
    largest_next found x (n + 3) (omega arith)
    ∙ ap (λ (m : ℕ). max m (x (n + 3))) (largest_next found x (n + 2) (omega arith))
    ∙ ap (λ (m : ℕ). max (max m (x (n + 2))) (x (n + 3))) (largest_next found x (n + 1) (omega arith))
    ∙ ap (λ (m : ℕ). max (max (max m (x (n + 1))) (x (n + 2))) (x (n + 3))) (largest_next found x n refl)

-- The largest is within what all are within.
pub largest_within : {most found : ℕ} (x : ℕ → ℕ) → found ≤ most → ((k : ℕ) → x k ≤ most) → (n : ℕ) → largest_from found x n ≤ most
unfolding largest_from
largest_within x h each zero = h
largest_within {found = found} x h each (suc n) = omega (arith, largest_within x h each n, each n)

-- Of the same integers it is the same.
pub largest_same : (found : ℕ) (x y : ℕ → ℕ) (n : ℕ) → ((k : ℕ) → k < n → x k ≡ y k) → largest_from found x n ≡ largest_from found y n
unfolding largest_from
largest_same found x y zero same = refl
largest_same found x y (suc n) same = ap₂ max (largest_same found x y n (λ k h. same k (omega arith))) (same n (omega arith))

-- The largest of some, and of those behind them, is the largest of all.
pub largest_joined : (found : ℕ) (x : ℕ → ℕ) (k n : ℕ) → largest_from (largest_from found x k) (λ j. x (k + j)) n ≡ largest_from found x (k + n)
unfolding largest_from
largest_joined found x k zero = ap (largest_from found x) (sym (add-zero k))
largest_joined found x k (suc n) = ap (λ (m : ℕ). max m (x (k + n))) (largest_joined found x k n) ∙ sym (ap (largest_from found x) (add-suc k n))

-- The integers of simple packing have at most 31 bits, and so has the largest of them.
pub simple_within : (run : List ℕ) {bits : ℕ} (n : ℕ) → bits ≤ 31 → largest_of (simple_integer run bits) n ≤ most_x
simple_within run {bits} n narrow = largest_within (simple_integer run bits) (omega arith) each n
  where
    each : (k : ℕ) → simple_integer run bits k ≤ most_x
    each k =
        let small : simple_integer run bits k < 2147483648 = lt_of_lt_of_le (bits_lt run (first_bit 6 + k * bits) bits) (pow_mono {j = 31} narrow) in
        omega (arith, small)
