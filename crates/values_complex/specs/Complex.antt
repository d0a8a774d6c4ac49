-- RULES, "Section 7", complex packing: the groups of a field, one after the other, and the integers X of the field.
use Rattle.std.specs.Prelude.{ℕ, suc, ◌+◌, ◌-◌, ◌*◌, ◌≤◌, ◌<◌, ◌^◌, ◌≡◌, true, cond, List, ltb, ℤ, nat_abs, Option, Some, None}
use Rattle.octets.specs.Places.{first_bit}
use Rattle.section_7_layout.specs.Runs.{layout_of, width_of, length_of, Limited}
use Rattle.section_7.specs.Packing.{values_before, bits_before, are_sound}
use Rattle.doubles.specs.declared.Packing.{Packing}
use Rattle.values_points.specs.Written.{Marks, Runs, Written}
use Rattle.values_group.specs.declared.Group.{Group}
use Rattle.values_group.specs.declared.Latest.{Latest}
use Rattle.values_group.specs.Group.{integers_of}
use Rattle.values_integers.specs.Integers.{reference_of, stored_at, integer, are_in_range}
use Rattle.values_integers.specs.Worked.{raised_by, lowered_by, worked}
use Rattle.section_7.specs.declared.Groups.{Groups}
use Rattle.values_complex.specs.declared.Reached.{Reached}
use Rattle.values_complex.specs.declared.Start.{Start}

-- Where the groups are known by their section's octets: all values in them, and the integer X of value m.
module _ (run : List ℕ) (g : Groups) where
  abbrev pub values_in : ℕ
  values_in = values_before run g.layout g.grouping g.grouping.groups

  abbrev pub integer_in : ℕ → ℤ
  integer_in m = integer g.differencing (stored_at run g.layout g.bits g.grouping) m

  -- An integer in its range is its own size.
  abbrev pub size_in : ℕ → ℕ
  size_in m = nat_abs (integer_in m)

  -- What is worked out behind the second value and so many more.
  abbrev pub worked_in : ℕ → Option Latest
  worked_in m = worked g.differencing (stored_at run g.layout g.bits g.grouping) m

  -- Every integer of the field is in its range.
  abbrev pub AllInRange : Type 0
  AllInRange = are_in_range integer_in values_in ≡ true

-- RULES, "One point": the integer numbered m alone, which is told where none up to it is out of its range.
abbrev pub single_of : (ℕ → ℤ) → ℕ → Option ℕ
single_of x m = cond (are_in_range x (suc m)) (Some (nat_abs (x m))) None

-- The packed numbers of the first two values are there and not used. Where so many values stand before a group of such a length, that many of
-- its own are among the first two.
abbrev pub skipped : ℕ → ℕ → ℕ
skipped values length = cond (ltb length (2 - values)) length (2 - values)

module _ (run : List ℕ) (g : Groups) (i : ℕ) where
  -- Where group i starts: behind the values and the bits of those before it.
  abbrev pub start_of : Start
  start_of = record { values = values_before run g.layout g.grouping i; bit = record { 0 = first_bit g.layout.packed.0 + bits_before run g.layout g.grouping i } }

  -- Of its numbers those are not used that are skipped.
  abbrev skipped_here : ℕ
  skipped_here = skipped (values_before run g.layout g.grouping i) (length_of run g.layout g.grouping i)

  abbrev pub group_at : Group
  group_at =
      record {
        from = record { 0 = first_bit g.layout.packed.0 + bits_before run g.layout g.grouping i + skipped_here * width_of run g.layout g.grouping i };
        width = width_of run g.layout g.grouping i;
        base = reference_of run g.layout g.bits i + raised_by g.differencing.zmin;
        lowered = lowered_by g.differencing.zmin;
        count = length_of run g.layout g.grouping i - skipped_here;
      }

-- The first numbers of a group, and no more than `most` of them.
abbrev pub first_of : Group → ℕ → Group
first_of g most = record { from = g.from; width = g.width; base = g.base; lowered = g.lowered; count = cond (ltb most g.count) most g.count }

-- What section 5 and the plan of section 7 have judged before.
pub record Sound (run : List ℕ) (g : Groups) : Type 0 where
  pub placed : g.layout ≡ layout_of g.bits g.grouping
  pub limited : Limited g.bits g.grouping
  pub groups_fit : g.grouping.groups < 2 ^ 32
  pub sound : are_sound run g.layout g.grouping g.grouping.groups ≡ true
  pub two_values : 2 ≤ values_in run g
  pub few_values : values_in run g ≤ 16777216
  pub zmin_fits : g.differencing.zmin.size < 2 ^ 31

-- All integers of the group, behind the two last ones, are written to the points from the next one on, up to where the writing has come then.
abbrev pub GroupWritten : Marks → Packing → List ℕ → Group → Reached → Reached → Runs → Runs → Type 0
GroupWritten m p run g from to before after =
    Written m p (integers_of run g from.latest) g.count from.point to.point before after
