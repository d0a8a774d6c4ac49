-- Points that are all present: what one window of the bitmap tells of them, and that to write them one behind the other is to write them by their marks.
use mathlib.Core.Path.{◌≡◌, sym, ap, ◌∙◌}
use mathlib.Core.Bool.{true, ◌&&◌}
use mathlib.Core.List.{List}
use Prim.Native.Nat.{ℕ, zero, suc, ◌+◌, ◌-◌, ◌*◌, ◌/◌, ◌^◌, ◌≤◌, ◌<◌}
use native.Mathlib.Nat.{add-zero, pow-suc}
use native.Mathlib.Omega.{arith}
use borrow.Author.Tests.{ltb-true, ltb-false, leb-true, eqb-true}
use lib.Dec.{eqb, leb, ltb}
use lib.ListN.{length}
use lib.Pow.{pow_pos}
use Rattle.octets.proofs.Cases.{split, both}
use Rattle.bits.specs.Bits.{bit_at, bits_at}
use Rattle.bits.proofs.Laws.{bit_lt}
use Rattle.laws_rows.proofs.Laws.{filled_same}
use Rattle.doubles.specs.declared.Packing.{Packing}
use Rattle.values_points.specs.Points.{point_value, double_at}
use Rattle.values_points.specs.Written.{Marks, every_point, marks_in, Runs, WrittenPast, Written, are_present}
use Rattle.values_points.proofs.Marks.{Ranked, marks_empty, marks_bits}

-- The points from `from` up to `next` are present.
abbrev pub Present : Marks → ℕ → ℕ → Type 0
Present m from next = (i : ℕ) → from ≤ i → i < next → m.mark i ≡ 1

-- Where the number of n bits is the greatest there is, each of them is 1.
all_set : (run : List ℕ) (at n : ℕ) → bits_at run at n ≡ 2 ^ n - 1 → (i : ℕ) → i < n → bit_at run (at + i) ≡ 1
unfolding bits_at
all_set run at zero e i h = absurd (omega arith)
all_set run at (suc n) e i h =
    split (ltb i n) (λ before. all_set run at n (omega (arith, whole, bit_lt run (at + n), pow_pos n)) i (ltb-true i n before))
    (λ last. let same : i ≡ n = omega (arith, ltb-false i n last) in ap (λ (k : ℕ). bit_at run (at + k)) same ∙ omega (arith, whole, bit_lt run (at + n), pow_pos n))
  where
    whole : bits_at run at n * 2 + bit_at run (at + n) ≡ 2 ^ n * 2 - 1
    whole = e ∙ ap (λ (k : ℕ). k - 1) (pow-suc 2 n)

-- Points that are told to be present are so.
pub told_present : (bitmap : List ℕ) (point n : ℕ) → are_present bitmap point n ≡ true → Present (marks_in bitmap) point (point + n)
told_present bitmap point n told i l k =
    split (eqb (length bitmap) 0)
    (λ empty. ap (λ (m : Marks). m.mark i) (marks_empty bitmap (eqb-true _ _ empty)))
    (λ some.
    let window : (leb (point / 8 + 8) (length bitmap) && eqb (bits_at bitmap point n) (2 ^ n - 1)) ≡ true = rw some at told in
    let number : bits_at bitmap point n ≡ 2 ^ n - 1 = eqb-true _ _ (both (leb (point / 8 + 8) (length bitmap)) (eqb (bits_at bitmap point n) (2 ^ n - 1)) window).1 in
    let left : point / 8 + 8 ≤ length bitmap = leb-true _ _ (both (leb (point / 8 + 8) (length bitmap)) (eqb (bits_at bitmap point n) (2 ^ n - 1)) window).0 in
    let place : i ≡ point + (i - point) = omega arith in
    ap (λ (m : Marks). m.mark i) (marks_bits bitmap (omega arith)) ∙ ap (bit_at bitmap) place ∙ all_set bitmap point n number (i - point) (omega arith))

module _ (m : Marks) (r : Ranked m) where
  -- Points that are all present add their number to the count of those present.
  rank_present : (from n : ℕ) → Present m from (from + n) → m.rank (from + n) ≡ m.rank from + n
  rank_present from zero h = ap m.rank (add-zero from) ∙ sym (add-zero (m.rank from))
  rank_present from (suc n) h =
      let longer : from + suc n ≡ from + n + 1 = omega arith in
      ap m.rank longer ∙ r.more (from + n) ∙ omega (arith, rank_present from n (λ i l k. h i l (omega arith)), h (from + n) (omega arith) (omega arith))

  -- Where so many points are left, as many that are all present are not past the end.
  pub present_within : (point n end : ℕ) → point ≤ end → m.rank point + n ≤ m.rank end → Present m point (point + n) → point + n ≤ end
  present_within point n end before left present =
      split (ltb end (point + n))
      (λ short.
      let past : end < point + n = ltb-true end (point + n) short in
      let whole : point + (end - point) ≡ end = omega arith in
      let fewer = rank_present point (end - point) (λ i l k. present i l (omega (arith, whole))) in
      absurd (omega (arith, left, fewer, ap m.rank whole)))
      (λ enough. ltb-false end (point + n) enough)

  module _ (packing : Packing) (x : ℕ → ℕ) {count from to : ℕ} {a b : Runs} (w : Written every_point packing x count from to a b) (present : Present m from to) where
    -- The stretch has `to - from` points.
    whole : from + (to - from) ≡ to
    whole = omega (arith, w.past.onward)

    -- All points of the stretch before one of it, or before its end, are present.
    rank_inside : (i : ℕ) → from ≤ i → i ≤ to → m.rank i ≡ m.rank from + (i - from)
    rank_inside i l k =
        let here : from + (i - from) ≡ i = omega arith in
        ap m.rank (sym here) ∙ rank_present from (i - from) (λ j n o. present j n (omega (arith, here)))

    by_marks : WrittenPast m packing x count from to a b
    by_marks =
        record {
          onward = w.past.onward;
          within = w.past.within;
          used = omega (arith, rank_inside to w.past.onward (omega arith), w.past.used);
          doubles =
              w.past.doubles
              ∙ filled_same (double_at packing x (λ _. 1) (λ i. i - from)) (double_at packing x m.mark (λ i. m.rank i - m.rank from)) from (to - from) a.doubles double;
          marks = w.past.marks ∙ filled_same (λ _. 1) m.mark from (to - from) a.marks (λ i l k. sym (present i l (omega (arith, whole))));
        }
      where
        double : (i : ℕ) → from ≤ i → i < from + (to - from) → double_at packing x (λ _. 1) (λ j. j - from) i ≡ double_at packing x m.mark (λ j. m.rank j - m.rank from) i
        double i l k =
            let rank : i - from ≡ m.rank i - m.rank from = omega (arith, rank_inside i l (omega (arith, whole))) in
            ap (λ (n : ℕ). point_value packing 1 (x n)) rank
            ∙ ap (λ (mark : ℕ). point_value packing mark (x (m.rank i - m.rank from))) (sym (present i l (omega (arith, whole))))

    -- A stretch that is written as all present is one written by marks that have all of its points. Its last point has the last integer.
    pub all_by_marks : Written m packing x count from to a b
    all_by_marks = record { past = by_marks; least = λ i l k. omega (arith, rank_inside i l (omega arith), w.past.used) }
