-- What the loop over a field's groups keeps, from group to group: `Gathered`, the largest integer of those that are passed.
use mathlib.Core.Path.{◌≡◌, refl, sym, ap, ◌∙◌, subst}
use mathlib.Core.Bool.{true, false}
use mathlib.Core.List.{List}
use Prim.Native.Nat.{ℕ, suc, ◌+◌, ◌-◌, ◌≤◌, ◌<◌}
use native.Mathlib.Nat.{add-zero}
use native.Mathlib.Omega.{arith}
use lib.IntN.{nat_abs}
use Rattle.octets.specs.Places.{first_bit}
use Rattle.octets.proofs.Cases.{apart}
use Rattle.section_7.specs.declared.Groups.{Groups}
use Rattle.section_7.specs.Packing.{values_before, bits_before}
use Rattle.std.specs.Prelude.{max, Option, Some, None, is_some}
use Rattle.values_group.specs.declared.Latest.{Latest}
use Rattle.values_group.specs.Group.{most_x, worked_by, last_of, integers_of, Limits}
use Rattle.values_group.proofs.Steps.{kept_earlier}
use Rattle.values_integers.specs.Integers.{integer, stored_at, are_in_range}
use Rattle.values_integers.proofs.Joined.{worked_sound}
use Rattle.values_complex.specs.declared.Start.{Start}
use Rattle.values_complex.specs.Complex.{start_of, group_at, values_in, integer_in, size_in, worked_in, Sound}
use Rattle.values_complex.proofs.Joined.{group_worked, group_ends, group_passed, first_kept, out_later, range_worked, next_start}
use Rattle.values_complex.proofs.Passed.{worked_before}
use Rattle.values_complex.proofs.Turns.{kept_limits}
use Rattle.values_largest.specs.declared.Seen.{Seen}
use Rattle.values_largest.specs.Largest.{largest_from, largest_of, largest_in, seen_by}
use Rattle.values_largest.proofs.Laws.{largest_same, largest_joined}
use Rattle.values_largest.proofs.Turns.{kept_told, out_told, group_within}

module _ (run : List ℕ) (g : Groups) where
  -- i groups are passed: the last two integers are kept, and the largest is that of all so far.
  pub record Gathered (i : ℕ) (seen : Seen) (start : Start) : Type 0 where
    pub within : i ≤ g.grouping.groups
    pub starts : start ≡ start_of run g i
    pub kept : worked_in run g (worked_before run g i) ≡ Some seen.latest
    pub fits : seen.largest ≤ most_x
    pub most : seen.largest ≡ largest_of (size_in run g) (worked_before run g i + 2)

  -- Before the first group it is the larger of the first two values.
  pub gathered_none : g.differencing.first ≤ most_x → g.differencing.second ≤ most_x → {bit largest : ℕ} → bit ≡ first_bit g.layout.packed.0 →
      largest ≡ max g.differencing.second g.differencing.first →
      Gathered 0 (record { latest = record { x = g.differencing.second; before = g.differencing.first }; largest = largest }) (record { values = 0; bit = record { 0 = bit } })
  unfolding values_before bits_before integer largest_from
  gathered_none h k {bit} {largest} first both =
      record {
        within = omega arith;
        starts = ap (λ (n : ℕ). record { values = 0; bit = record { 0 = n } }) (first ∙ sym (add-zero (first_bit g.layout.packed.0)));
        kept = first_kept run g h k;
        fits = omega (arith, both, h, k);
        most = omega (arith, both);
      }

  -- The integers of a group that is kept are the field's.
  kept_field : {i : ℕ} {latest : Latest} → i < g.grouping.groups → worked_in run g (worked_before run g i) ≡ Some latest →
      is_some (worked_by run (group_at run g i) (Some latest) (group_at run g i).count) ≡ true → (k : ℕ) → k < (group_at run g i).count →
      integers_of run (group_at run g i) latest k ≡ size_in run g (worked_before run g i + 2 + k)
  kept_field {i} {latest} h before all k l =
      let m : ℕ = worked_before run g i + suc k in
      let here : worked_by run (group_at run g i) (Some latest) (suc k) ≡ worked_in run g m =
      ap (λ (w : Option Latest). worked_by run (group_at run g i) w (suc k)) (sym before) ∙ group_worked run g i (suc k) h (omega arith) in
      let kept = kept_earlier run (group_at run g i) (Some latest) (group_at run g i).count (suc k) (omega arith) all in
      let number : suc m ≡ worked_before run g i + 2 + k = omega arith in
      ap last_of here ∙ sized m (worked_in run g m) refl (ap is_some (sym here) ∙ kept) ∙ ap (size_in run g) number
    where
      sized : (m : ℕ) (w : Option Latest) → worked_in run g m ≡ w → is_some w ≡ true → last_of w ≡ size_in run g (suc m)
      sized m (Some latest) e h = sym (ap nat_abs (worked_sound g.differencing (stored_at run g.layout g.bits g.grouping) m e).last)
      sized m None e h = apart cc

  module _ (sound : Sound run g) {i : ℕ} {from : Seen} {start : Start} (s : Gathered i from start) where
    -- The next group is within its limits.
    pub gathered_limits : i < g.grouping.groups → Limits (group_at run g i) from.latest
    gathered_limits inside = kept_limits run g (worked_before run g i) s.kept inside sound

    module _ (inside : i < g.grouping.groups) {answer : Option Seen}
        (answered : answer ≡ seen_by run (group_at run g i) from (group_at run g i).count) where
      -- What the group keeps is what is worked out behind it.
      behind_group : worked_by run (group_at run g i) (Some from.latest) (group_at run g i).count ≡ worked_in run g (worked_before run g (i + 1))
      behind_group =
          ap (λ (w : Option Latest). worked_by run (group_at run g i) w (group_at run g i).count) (sym s.kept) ∙ group_passed run g i inside

      -- One group more is passed.
      pub gathered_on : {seen : Seen} {next : Start} → answer ≡ Some seen → next ≡ start_of run g (i + 1) → Gathered (i + 1) seen next
      gathered_on kept begins =
          let count : ℕ = (group_at run g i).count in
          let told = kept_told (worked_by run (group_at run g i) (Some from.latest) count) (sym answered ∙ kept) in
          let f : ℕ → ℕ = integers_of run (group_at run g i) from.latest in
          let size : ℕ → ℕ = size_in run g in
          let so_far : ℕ = worked_before run g i + 2 in
          let more : so_far + count ≡ worked_before run g (i + 1) + 2 = omega (arith, group_ends run g i) in
          record {
            within = omega (arith, inside);
            starts = begins;
            kept = sym behind_group ∙ told.0;
            fits = subst (λ (n : ℕ). n ≤ most_x) told.1 (group_within run (group_at run g i) from (gathered_limits inside) s.fits count);
            most =
                sym told.1
                ∙ largest_same from.largest f (λ k. size (so_far + k)) count (kept_field inside s.kept (ap is_some told.0))
                ∙ ap (λ (n : ℕ). largest_from n (λ k. size (so_far + k)) count) s.most
                ∙ largest_joined 0 size so_far count
                ∙ ap (largest_of size) more;
          }

      -- Where one of the group's integers is out of its range, not all of the field's are in it.
      pub gathered_out : answer ≡ None → None ≡ largest_in (integer_in run g) (values_in run g)
      gathered_out out =
          let told = out_told (worked_by run (group_at run g i) (Some from.latest) (group_at run g i).count) _ (sym answered ∙ out) in
          let last = out_later run g (values_in run g - 2) (next_start run g sound i inside) (sym behind_group ∙ told) in
          let all : values_in run g - 2 + 2 ≡ values_in run g = omega (arith, sound.two_values) in
          let fails : are_in_range (integer_in run g) (values_in run g) ≡ false =
          ap (are_in_range (integer_in run g)) (sym all) ∙ range_worked run g (values_in run g - 2) ∙ ap is_some last in
          rw fails

    -- Past the last group all integers are looked at.
    pub gathered_all : g.grouping.groups ≤ i → Some from.largest ≡ largest_in (integer_in run g) (values_in run g)
    gathered_all past =
        let last : i ≡ g.grouping.groups = omega (arith, s.within) in
        let all : worked_before run g i + 2 ≡ values_in run g = omega (arith, sound.two_values, ap (values_before run g.layout g.grouping) last) in
        let holds : are_in_range (integer_in run g) (values_in run g) ≡ true =
        ap (are_in_range (integer_in run g)) (sym all) ∙ range_worked run g (worked_before run g i) ∙ ap is_some s.kept in
        rw holds (ap Some (s.most ∙ ap (largest_of (size_in run g)) all))
