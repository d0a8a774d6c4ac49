-- What the loop over a field's groups keeps, from group to group: `Passed` of the second pass, over which points are present.
use mathlib.Core.Path.{◌≡◌, sym, ap, ◌∙◌, subst}
use mathlib.Core.Bool.{true}
use mathlib.Core.List.{List}
use Prim.Native.Nat.{ℕ, zero, suc, ◌+◌, ◌-◌, ◌≤◌, ◌<◌}
use native.Mathlib.Nat.{add-zero}
use native.Mathlib.Omega.{arith}
use Rattle.octets.specs.Places.{first_bit}
use Rattle.doubles.specs.declared.Packing.{Packing}
use Rattle.section_7.specs.Packing.{values_before, bits_before}
use Rattle.values_complex.specs.declared.Reached.{Reached}
use Rattle.std.specs.Prelude.{Some, is_some}
use Rattle.values_group.specs.Group.{worked_by, integers_of}
use Rattle.values_points.specs.Written.{Marks, Runs, WrittenPast, Written}
use Rattle.values_points.proofs.Marks.{Ranked}
use Rattle.values_points.proofs.Laws.{past_same, past_then}
use Rattle.values_integers.specs.Integers.{integer, are_in_range}
use Rattle.section_7.specs.declared.Groups.{Groups}
use Rattle.values_complex.specs.declared.Start.{Start}
use Rattle.values_complex.specs.Complex.{start_of, group_at, values_in, integer_in, size_in, worked_in, Sound, GroupWritten}
use Rattle.values_complex.proofs.Joined.{group_passed, group_ends, group_field, two_kept, range_kept, next_start}

module _ (run : List ℕ) (g : Groups) where
  -- The values before group i, and at least the first two: so many integers are worked out.
  abbrev pub worked_before : ℕ → ℕ
  worked_before i = values_before run g.layout g.grouping i - 2

  -- i groups are passed: the integers so far are written to the points before the one that is reached, in runs that were `a` and are `b` now.
  pub record Passed (m : Marks) (p : Packing) (a : Runs) (i : ℕ) (reached : Reached) (start : Start) (b : Runs) : Type 0 where
    pub within : i ≤ g.grouping.groups
    pub starts : start ≡ start_of run g i
    pub kept : worked_in run g (worked_before i) ≡ Some reached.latest
    pub written : WrittenPast m p (size_in run g) (worked_before i + 2) 0 reached.point a b

  module _ (sound : Sound run g) (all : are_in_range (integer_in run g) (values_in run g) ≡ true) {m : Marks} (r : Ranked m) {p : Packing} {a b : Runs} where
    module _ {i : ℕ} {reached : Reached} {start : Start} (s : Passed m p a i reached start b) where
      -- The integers of the next group are all in their range.
      pub next_kept : i < g.grouping.groups → is_some (worked_by run (group_at run g i) (Some reached.latest) (group_at run g i).count) ≡ true
      next_kept h =
          subst (λ w. is_some w ≡ true) (sym (group_passed run g i h) ∙ ap (λ w. worked_by run (group_at run g i) w (group_at run g i).count) s.kept)
          (range_kept run g sound all (worked_before (i + 1)) (next_start run g sound i h))

      -- With the next group written, one more is passed.
      pub passed_more : i < g.grouping.groups → {later : Reached} {next : Start} {c : Runs} → next ≡ start_of run g (i + 1) →
          worked_by run (group_at run g i) (Some reached.latest) (group_at run g i).count ≡ Some later.latest →
          GroupWritten m p run (group_at run g i) reached later b c → Passed m p a (i + 1) later next c
      passed_more h {later} {next} {c} begins worked group =
          let more : worked_before i + 2 + (group_at run g i).count ≡ worked_before (i + 1) + 2 = omega (arith, group_ends run g i) in
          record {
            within = omega arith;
            starts = begins;
            kept = sym (group_passed run g i h) ∙ ap (λ v. worked_by run (group_at run g i) v (group_at run g i).count) s.kept ∙ worked;
            written =
                rw more at
                (past_then m r.more p (size_in run g) (integers_of run (group_at run g i) reached.latest) s.written group.past (λ k l. group_field run g sound all i reached.latest h s.kept k l));
          }

      -- Past the last group the values are all that there are.
      pub all_written : g.grouping.groups ≤ i → worked_before i + 2 ≡ values_in run g
      all_written past =
          let last : i ≡ g.grouping.groups = omega (arith, s.within) in
          omega (arith, sound.two_values, ap (values_before run g.layout g.grouping) last)

      -- The next group's integers and those before it are no more than the field's values.
      pub next_room : i < g.grouping.groups → m.rank reached.point + (group_at run g i).count ≤ values_in run g
      next_room within = omega (arith, s.written.used, r.none, group_ends run g i, next_start run g sound i within, sound.two_values)

    -- The first two values are written, and no group is passed.
    pub passed_none : {x : ℕ → ℕ} {point : ℕ} → x 0 ≡ g.differencing.first → x 1 ≡ g.differencing.second → Written m p x 2 0 point a b →
        Passed m p a 0 (record { latest = record { x = g.differencing.second; before = g.differencing.first }; point = point }) (record { values = 0; bit = record { 0 = first_bit g.layout.packed.0 } }) b
    unfolding values_before bits_before integer
    passed_none {x} {point} first second written =
        record {
          within = omega arith;
          starts = ap (λ (n : ℕ). record { values = 0; bit = record { 0 = n } }) (sym (add-zero (first_bit g.layout.packed.0)));
          kept = two_kept run g sound all;
          written = past_same m r.more p x (size_in run g) written.past two;
        }
      where
        two : (k : ℕ) → k < 2 → x k ≡ size_in run g k
        two zero h = first
        two (suc zero) h = second
        two (suc (suc k)) h = absurd (omega arith)
