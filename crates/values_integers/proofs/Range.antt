-- Integers that are all in their range, and one that is not.
use mathlib.Core.Path.{◌≡◌, refl}
use mathlib.Core.Bool.{true, false}
use Prim.Native.Nat.{ℕ, zero, suc, ◌<◌}
use native.Mathlib.Omega.{arith}
use borrow.Author.Tests.{eqb-true, eqb-false}
use lib.Dec.{eqb}
use lib.IntN.{ℤ}
use Rattle.octets.proofs.Cases.{apart, split, both}
use Rattle.doubles.specs.Doubles.{is_in_range}
use Rattle.values_integers.specs.Integers.{are_in_range}

module _ (x : ℕ → ℤ) where
  pub in_range_all : (n : ℕ) → ((j : ℕ) → j < n → is_in_range (x j) ≡ true) → are_in_range x n ≡ true
  unfolding are_in_range
  in_range_all zero h = refl
  in_range_all (suc n) h = rw (in_range_all n (λ j l. h j (omega arith)), h n (omega arith))

  pub in_range_one : (n : ℕ) {j : ℕ} → are_in_range x n ≡ true → j < n → is_in_range (x j) ≡ true
  unfolding are_in_range
  in_range_one zero e h = absurd (omega arith)
  in_range_one (suc n) {j} e h =
      let parts = both (are_in_range x n) (is_in_range (x n)) e in
      split (eqb j n) (λ last. rw (eqb-true j n last) parts.1) (λ earlier. in_range_one n parts.0 (omega (arith, eqb-false j n earlier)))

  pub in_range_out : (n : ℕ) {j : ℕ} → j < n → is_in_range (x j) ≡ false → are_in_range x n ≡ false
  in_range_out n {j} h e =
      split (are_in_range x n) (λ all. apart (cc (in_range_one n all h))) (λ fails. fails)

  -- Where they are not all in it, one is not.
  pub out_of_range : (n : ℕ) → are_in_range x n ≡ false → (m : ℕ) × (m < n) × (is_in_range (x m) ≡ false)
  unfolding are_in_range
  out_of_range zero fails = apart cc
  out_of_range (suc n) fails =
      split (are_in_range x n)
      (λ before. (n, omega arith, rw before at fails))
      (λ earlier. let found = out_of_range n earlier in (found.0, omega (arith, found.1), found.2))
