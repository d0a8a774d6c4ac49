-- Points that are missing: how they are cleared, one by one, and that to clear them is to write no integer. What is cleared leaves nothing open.
use mathlib.Core.Path.{◌≡◌, refl, sym, ap, ap₂, ◌∙◌}
use mathlib.Core.Bool.{false}
use Prim.Native.Nat.{ℕ, zero, suc, ◌+◌, ◌-◌, ◌≤◌, ◌<◌}
use native.Mathlib.Nat.{add-zero}
use native.Mathlib.Omega.{arith}
use borrow.Author.Tests.{ltb-true, ltb-false}
use lib.Dec.{ltb}
use lib.IntN.{pos}
use lib.ListN.{length, set}
use lib.Ieee.{fin, binary64, of_bits}
use Rattle.octets.proofs.Cases.{split}
use Rattle.laws_rows.specs.Rows.{filled}
use Rattle.laws_rows.proofs.Laws.{filled_next, filled_same, start_end}
use Rattle.doubles.specs.declared.Packing.{Packing}
use Rattle.values_points.specs.Points.{point_value, double_at}
use Rattle.values_points.specs.Written.{Marks, Runs, runs, WrittenPast, Missing, Cleared, Filled}
use Rattle.values_points.proofs.Marks.{Ranked}
use Rattle.values_points.proofs.Laws.{neither_less, rank_mono, past_lengths, past_then}

-- The literal 0.0 is +0.
pub zero_literal : of_bits binary64 0 ≡ fin false 0 (pos 0)
unfolding of_bits
zero_literal = refl

module _ (m : Marks) (point : ℕ) (a : Runs) where
  -- Before the first point is looked at, nothing is written.
  pub missing_none : point ≤ length a.doubles → Missing m point point a a
  unfolding filled
  missing_none h =
      let none : point - point ≡ 0 = omega arith in
      record {
        onward = omega arith;
        within = h;
        missing = λ i l k. absurd (omega arith);
        doubles = sym (ap (λ (n : ℕ). filled (λ _. fin false 0 (pos 0)) point n a.doubles) none);
        marks = sym (ap (λ (n : ℕ). filled (λ _. 0) point n a.marks) none);
      }

  -- A point that is missing is written, and the next one is looked at.
  pub missing_more : {i : ℕ} {b : Runs} → Missing m point i a b → i < length a.doubles → m.mark i ≡ 0 →
      Missing m point (i + 1) a (runs (set b.doubles i (fin false 0 (pos 0))) (set b.marks i 0))
  missing_more {i} {b} past h e =
      record {
        onward = omega (arith, past.onward);
        within = omega arith;
        missing = earlier;
        doubles = filled_next (λ _. fin false 0 (pos 0)) point i a.doubles b.doubles past.onward past.doubles refl;
        marks = filled_next (λ _. 0) point i a.marks b.marks past.onward past.marks refl;
      }
    where
      earlier : (j : ℕ) → point ≤ j → j < i + 1 → m.mark j ≡ 0
      earlier j l k =
          split (ltb j i) (λ before. past.missing j l (ltb-true j i before))
          (λ last. let same : j ≡ i = omega (arith, ltb-false j i last) in ap m.mark same ∙ e)

-- Any two outcomes of clearing are the same: where one stops before the end a point is present, which the other has not passed.
pub cleared_determined : {m : Marks} {point next next' : ℕ} {a b b' : Runs} →
    Cleared m point next a b → Cleared m point next' a b' → (next ≡ next') × (b ≡ b')
cleared_determined {m} {point} {next} {next'} {a} {b} {b'} c d =
    let same : next ≡ next' =
    neither_less next next' (λ less. omega (arith, d.past.missing next c.past.onward less, c.present (omega (arith, d.past.within))))
    (λ less. omega (arith, c.past.missing next' d.past.onward less, d.present (omega (arith, c.past.within)))) in
    let doubles : b.doubles ≡ b'.doubles =
    c.past.doubles ∙ ap (λ (n : ℕ). filled (λ _. fin false 0 (pos 0)) point (n - point) a.doubles) same ∙ sym d.past.doubles in
    let marks : b.marks ≡ b'.marks = c.past.marks ∙ ap (λ (n : ℕ). filled (λ _. 0) point (n - point) a.marks) same ∙ sym d.past.marks in
    (same, ap₂ runs doubles marks)

module _ (m : Marks) (r : Ranked m) where
  -- Missing points add nothing to the count of those present.
  rank_missing : (point n : ℕ) → ((i : ℕ) → point ≤ i → i < point + n → m.mark i ≡ 0) → m.rank (point + n) ≡ m.rank point
  rank_missing point zero h = ap m.rank (add-zero point)
  rank_missing point (suc n) h =
      let longer : point + suc n ≡ point + n + 1 = omega arith in
      ap m.rank longer ∙ r.more (point + n) ∙ omega (arith, rank_missing point n (λ i l k. h i l (omega arith)), h (point + n) (omega arith) (omega arith))

  -- To clear missing points is to write no integer.
  pub cleared_past : (p : Packing) (x : ℕ → ℕ) {point next : ℕ} {a b : Runs} → Cleared m point next a b → WrittenPast m p x 0 point next a b
  cleared_past p x {point} {next} {a} {b} cleared =
      record {
        onward = c.onward;
        within = c.within;
        used = sym (ap m.rank whole) ∙ rank_missing point (next - point) missing ∙ sym (add-zero (m.rank point));
        doubles =
            c.doubles
            ∙ filled_same (λ _. fin false 0 (pos 0)) (double_at p x m.mark (λ i. m.rank i - m.rank point)) point (next - point) a.doubles
            (λ i l k. sym (ap (λ (mark : ℕ). point_value p mark (x (m.rank i - m.rank point))) (missing i l k)));
        marks = c.marks ∙ filled_same (λ _. 0) m.mark point (next - point) a.marks (λ i l k. sym (missing i l k));
      }
    where
      c : Missing m point next a b
      c = cleared.past

      whole : point + (next - point) ≡ next
      whole = omega (arith, c.onward)

      missing : (i : ℕ) → point ≤ i → i < point + (next - point) → m.mark i ≡ 0
      missing i l k = c.missing i l (omega (arith, whole))

  -- Where every integer of a field is written, no point behind the last is present: to clear what is missing is to reach the end, and both runs are filled.
  pub cleared_filled : (p : Packing) (x : ℕ → ℕ) {count point next : ℕ} {a b c : Runs} → WrittenPast m p x count 0 point a b → Cleared m point next b c →
      m.rank (length a.doubles) ≡ count → length a.marks ≡ length a.doubles → Filled m p x a c
  cleared_filled p x {count} {point} {next} {a} {b} {c} w cleared all same =
      let n = length a.doubles in
      let v = past_then m r.more p x x w (cleared_past p x cleared) (λ k none. absurd (omega arith)) in
      let long : length b.doubles ≡ n = (past_lengths m r.more w).0 in
      let end : next ≡ n =
      split (ltb next n)
      (λ inside.
      let here = ltb-true next n inside in
      let present : m.mark next ≡ 1 = cleared.present (omega arith) in
      absurd (omega (arith, v.used, r.none, all, r.more next, rank_mono m r.more {i = next + 1} n (omega arith))))
      (λ behind. omega (arith, ltb-false next n behind, v.within)) in
      let ranks : (i : ℕ) → 0 ≤ i → i < 0 + (next - 0) → double_at p x m.mark (λ j. m.rank j - m.rank 0) i ≡ double_at p x m.mark m.rank i =
      λ i l k. let rank : m.rank i - m.rank 0 ≡ m.rank i = omega (arith, r.none) in ap (λ (j : ℕ). point_value p (m.mark i) (x j)) rank in
      let doubles : c.doubles ≡ filled (double_at p x m.mark m.rank) 0 (next - 0) a.doubles =
      v.doubles ∙ filled_same (double_at p x m.mark (λ j. m.rank j - m.rank 0)) (double_at p x m.mark m.rank) 0 (next - 0) a.doubles ranks in
      let last : next - 0 ≡ n = omega (arith, end) in (
        start_end (double_at p x m.mark m.rank) (next - 0) a.doubles c.doubles doubles n last refl,
        start_end m.mark (next - 0) a.marks c.marks v.marks n last (sym same),
      )
