-- The laws of the numbers that are read four at a time: how many there are in each case, and that so many can be.
use mathlib.Core.Path.{◌≡◌, sym, subst}
use mathlib.Core.Bool.{cond}
use Prim.Native.Nat.{ℕ, ◌+◌, ◌-◌, ◌*◌, ◌/◌, ◌≤◌, ◌<◌}
use native.Mathlib.Omega.{arith}
use borrow.Author.Tests.{ltb-false, leb-true}
use lib.Dec.{ltb}
use Rattle.octets.proofs.Cases.{split}
use mathlib.Core.List.{List, [], ◌∷◌}
use Rattle.std.specs.List.{slice_index}
use Rattle.std.proofs.lemmas.List.FromFn.{get_or-map-range_with_len}
use Rattle.bits.specs.Bits.{bits_at}
use Rattle.bits.specs.Fours.{leaves_eight, fours_in, Foured, numbers_at}

module _ (octets from b count : ℕ) where
  -- No fours at all can be read.
  none_foured : Foured octets from b count 0
  none_foured = record { few = omega arith; narrow = λ some. absurd (omega arith); inside = λ some. absurd (omega arith) }

  -- Fours that leave eight octets can be read, and where they do not, what is answered in their place is to be.
  some_foured : (fours instead : ℕ) → b ≤ 28 → 4 * fours ≤ count → Foured octets from b count instead
      → Foured octets from b count (cond (leaves_eight octets from b fours) fours instead)
  some_foured fours instead narrow few h =
      split (leaves_eight octets from b fours)
      (λ left. rw left (record { few = few; narrow = λ _. narrow; inside = λ _. leb-true ((from + 4 * fours * b) / 8 + 8) octets left }))
      (λ short. rw short h)

  all_foured : Foured octets from b count (fours_in octets from b count)
  unfolding fours_in
  all_foured =
      split (ltb 28 b) (λ wide. rw wide none_foured)
      (λ test.
      let narrow = ltb-false 28 b test in
      let fewer = (count - 64) / 4 in
      rw test
      (some_foured (count / 4) (cond (leaves_eight octets from b fewer) fewer 0) narrow (omega arith) (some_foured fewer 0 narrow (omega arith) none_foured)))

  -- What is counted can be read in fours: the law that the callers cite of the answer they were given.
  pub fours_foured : {fours : ℕ} → fours ≡ fours_in octets from b count → Foured octets from b count fours
  fours_foured counted = subst (Foured octets from b count) (sym counted) all_foured

-- Number i of several numbers, one behind the other, and all that two and four of them are.
module _ (run : List ℕ) (at b : ℕ) where
  pub number_of_several : (k i : ℕ) → i < k → slice_index (numbers_at run at b k) i ≡ bits_at run (at + i * b) b
  number_of_several k i h = get_or-map-range_with_len (λ i. bits_at run (at + i * b) b) 0 k i i 0 h (omega arith)

  pub two_found : numbers_at run at b 2 ≡ bits_at run at b ∷ bits_at run (at + b) b ∷ []
  two_found = grind arith

  pub four_found : numbers_at run at b 4 ≡ bits_at run at b ∷ bits_at run (at + b) b ∷ bits_at run (at + 2 * b) b ∷ bits_at run (at + 3 * b) b ∷ []
  four_found = grind arith
