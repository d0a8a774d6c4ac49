-- What the loop over a field's groups keeps, from group to group: `Passed`, over the greys of the integers behind the first two.
use mathlib.Core.Path.{◌≡◌, refl, sym, ap, ap₂, ◌∙◌}
use mathlib.Core.List.{List}
use Prim.Native.Nat.{ℕ, ◌+◌, ◌-◌, ◌≤◌, ◌<◌}
use native.Mathlib.Nat.{add-zero}
use native.Mathlib.Omega.{arith}
use borrow.Rule.Slice.PartMut.{put_mid}
use lib.ListN.{length, set}
use Rattle.octets.specs.Places.{first_bit}
use Rattle.laws_rows.specs.Rows.{row, filled}
use Rattle.laws_rows.proofs.Laws.{row_same, filled_length, filled_on}
use Rattle.greys.specs.declared.Scale.{Scale}
use Rattle.greys.specs.Greys.{grey_of, Below}
use Rattle.section_7.specs.declared.Groups.{Groups}
use Rattle.section_7.specs.Packing.{values_before, bits_before}
use Rattle.values_group.specs.declared.Latest.{Latest}
use Rattle.std.specs.Prelude.{Some, is_some}
use Rattle.values_group.specs.Group.{worked_by, GroupKept, GroupGoes, integers_of}
use Rattle.values_integers.specs.Integers.{integer}
use Rattle.values_complex.specs.declared.Start.{Start}
use Rattle.values_complex.specs.Complex.{start_of, group_at, values_in, size_in, worked_in, AllInRange, Sound}
use Rattle.values_complex.proofs.Joined.{group_passed, group_ends, group_field, two_kept, range_kept, next_start}
use Rattle.values_complex.proofs.Passed.{worked_before}
use Rattle.values_greys.specs.Packed.{packed_grey}
use Rattle.values_greys.proofs.Laws.{stretch_filled}

module _ (run : List ℕ) (g : Groups) where
  -- The first two integers are the first value and the second.
  pub first_size : g.differencing.first ≡ size_in run g 0
  unfolding integer
  first_size = refl

  pub second_size : g.differencing.second ≡ size_in run g 1
  unfolding integer
  second_size = refl

  module _ (scale : Scale) where
    -- The grey of a field's integer.
    abbrev grey : ℕ → ℕ
    grey = packed_grey scale (size_in run g)

    -- A run with the greys of the first two is filled up to them.
    pub two_greyed : (lent : List ℕ) {a b : ℕ} → a ≡ grey_of scale.largest g.differencing.first → b ≡ grey_of scale.largest g.differencing.second →
        set (set lent 0 a) 1 b ≡ filled grey 0 2 lent
    unfolding filled integer
    two_greyed lent one two = ap₂ (λ (x y : ℕ). set (set lent 0 x) 1 y) one two

    -- i groups are passed: of a run that has the first two greys the octets up to `done` are the greys of their integers, and `latest` has the last two integers.
    pub record Passed (lent : List ℕ) (i : ℕ) (latest : Latest) (start : Start) (done : ℕ) (greys : List ℕ) : Type 0 where
      pub within : i ≤ g.grouping.groups
      pub starts : start ≡ start_of run g i
      pub counted : done ≡ worked_before run g i + 2
      pub kept : worked_in run g (worked_before run g i) ≡ Some latest
      pub greyed : greys ≡ filled grey 2 (done - 2) lent

    -- The run keeps its length.
    pub passed_length : {lent : List ℕ} {i : ℕ} {latest : Latest} {start : Start} {done : ℕ} {greys : List ℕ} → Passed lent i latest start done greys → length greys ≡ length lent
    passed_length {lent} {done = done} p = ap length p.greyed ∙ filled_length grey 2 (done - 2) lent

    module _ (sound : Sound run g) (all : AllInRange run g) where
      -- Behind the first two no group is passed.
      pub passed_none : (lent : List ℕ) {bit : ℕ} → bit ≡ first_bit g.layout.packed.0 →
          Passed lent 0 (record { x = g.differencing.second; before = g.differencing.first }) (record { values = 0; bit = record { 0 = bit } }) 2 lent
      unfolding values_before bits_before filled
      passed_none lent first =
          record {
            within = omega arith;
            starts = ap (λ (n : ℕ). record { values = 0; bit = record { 0 = n } }) (first ∙ sym (add-zero (first_bit g.layout.packed.0)));
            counted = refl;
            kept = two_kept run g sound all;
            greyed = refl;
          }

      module _ {lent : List ℕ} {i : ℕ} {latest : Latest} {start : Start} {done : ℕ} {greys : List ℕ} (p : Passed lent i latest start done greys) where
        -- Past the last group all values of the field are counted.
        pub passed_all : g.grouping.groups ≤ i → done ≡ values_in run g
        passed_all past =
            let last : i ≡ g.grouping.groups = omega (arith, p.within) in
            omega (arith, p.counted, sound.two_values, ap (values_before run g.layout g.grouping) last)

        module _ (h : i < g.grouping.groups) where
          -- The next group's octets are among those of the field's values.
          pub next_room : done + (group_at run g i).count ≤ values_in run g
          next_room = omega (arith, p.counted, group_ends run g i, next_start run g sound i h, sound.two_values)

          -- Its integers are the field's next ones, all in their range, and no larger than the scale's largest where the field's are not.
          next_integer : (k : ℕ) → k < (group_at run g i).count → integers_of run (group_at run g i) latest k ≡ size_in run g (done + k)
          next_integer k l =
              group_field run g sound all i latest h p.kept k l ∙ ap (λ (n : ℕ). size_in run g (n + k)) (sym p.counted)

          next_worked : worked_by run (group_at run g i) (Some latest) (group_at run g i).count ≡ worked_in run g (worked_before run g (i + 1))
          next_worked = ap (λ w. worked_by run (group_at run g i) w (group_at run g i).count) (sym p.kept) ∙ group_passed run g i h

          pub next_kept : GroupKept run (group_at run g i) latest (group_at run g i).count
          next_kept = ap is_some next_worked ∙ range_kept run g sound all (worked_before run g (i + 1)) (next_start run g sound i h)

          pub next_below : Below scale (size_in run g) (values_in run g) → Below scale (integers_of run (group_at run g i) latest) (group_at run g i).count
          next_below below k l = rw (next_integer k (omega (arith, l))) (below (done + k) (omega (arith, l, next_room)))

          -- With its stretch of the run put, one group more is passed.
          pub passed_more : values_in run g ≡ length lent → {later : Latest} {next : Start} {part : List ℕ} → next ≡ start_of run g (i + 1) →
              GroupGoes run (group_at run g i) latest (group_at run g i).count later → part ≡ row (packed_grey scale (integers_of run (group_at run g i) latest)) (group_at run g i).count →
              Passed lent (i + 1) later next (done + (group_at run g i).count) (put_mid done (done + (group_at run g i).count - done) greys part)
          passed_more long {part = part} begins goes same =
              let count = (group_at run g i).count in
              let stretch : done + count - done ≡ count = omega arith in
              let room : done + count ≤ length greys = omega (arith, next_room, long, passed_length p) in
              let own : part ≡ row (λ k. grey (done + k)) count =
              same ∙ row_same (packed_grey scale (integers_of run (group_at run g i) latest)) (λ k. grey (done + k)) count (λ k l. ap (grey_of scale.largest) (next_integer k l)) in
              let put : put_mid done (done + count - done) greys part ≡ filled grey done (done + count - done) greys =
              ap (λ (n : ℕ). put_mid done n greys part) stretch
              ∙ ap (put_mid done count greys) own
              ∙ stretch_filled grey done count greys room
              ∙ ap (λ (n : ℕ). filled grey done n greys) (sym stretch) in
              record {
                within = omega arith;
                starts = begins;
                counted = omega (arith, p.counted, group_ends run g i);
                kept = sym next_worked ∙ goes;
                greyed = filled_on grey 2 lent greys (put_mid done (done + count - done) greys part) (omega (arith, p.counted)) (omega arith) p.greyed put;
              }
