-- RULES, "Section 7", and the papers' recurrence: the packed integers X of a field. They are numbered from 0, in the order in which they
-- are packed; here they are whole numbers with a sign, and nothing limits them.
use Rattle.std.specs.Prelude.{ℕ, zero, suc, ◌+◌, ◌-◌, ◌*◌, ◌<◌, ◌≡◌, Bool, true, ◌&&◌, cond, List, ltb, ℤ, pos, ◌+ℤ◌, ◌-ℤ◌, ◌*ℤ◌}
use Rattle.octets.specs.Places.{first_bit}
use Rattle.octets.specs.Numbers.{whole}
use Rattle.section.specs.Sections.{octets_in}
use Rattle.bits.specs.Bits.{bits_at}
use Rattle.doubles.specs.Doubles.{is_in_range}
use Rattle.section_5_groups.specs.declared.Grouping.{Grouping}
use Rattle.section_5.specs.declared.Template.{Template}
use Rattle.section_5.specs.declared.Representation.{Representation}
use Rattle.section_7_layout.specs.declared.Differencing.{Differencing}
use Rattle.section_7_layout.specs.declared.Layout.{Layout}
use Rattle.section_7_layout.specs.Runs.{differencing_at, layout_of, width_of, length_of}
use Rattle.section_7.specs.Packing.{values_before, bits_before}

-- Simple packing: the numbers of so many bits each, one behind the other, from octet 6 on.
abbrev pub simple_integer : List ℕ → ℕ → ℕ → ℕ
simple_integer run bits m = bits_at run (first_bit 6 + m * bits) bits

-- Complex packing: value m is number j of group i where the groups before it hold m - j values.
pub record InGroup (run : List ℕ) (at : Layout) (g : Grouping) (m i j : ℕ) : Type 0 where
  pub within : i < g.groups
  pub inside : j < length_of run at g i
  pub behind : m ≡ values_before run at g i + j

-- The group of value m, among the first so many and the one behind them: how many of them it lies behind.
unfoldable pub group_among : List ℕ → Layout → Grouping → ℕ → ℕ → ℕ
group_among run at g zero m = 0
group_among run at g (suc i) m = cond (ltb m (values_before run at g (suc i))) (group_among run at g i m) (suc i)

abbrev pub group_of : List ℕ → Layout → Grouping → ℕ → ℕ
group_of run at g m = group_among run at g g.groups m

-- The reference of group i, and the packed number j of that group. Groups follow one another with no gap.
abbrev pub reference_of : List ℕ → Layout → ℕ → ℕ → ℕ
reference_of run at bits i = bits_at run (first_bit at.references.0 + i * bits) bits

abbrev pub packed_in : List ℕ → Layout → Grouping → ℕ → ℕ → ℕ
packed_in run at g i j = bits_at run (first_bit at.packed.0 + (bits_before run at g i + j * width_of run at g i)) (width_of run at g i)

-- The packed number of value m and its group's reference, together.
unfoldable pub stored_at : List ℕ → Layout → ℕ → Grouping → ℕ → ℕ
stored_at run at bits g m =
    packed_in run at g (group_of run at g m) (m - values_before run at g (group_of run at g m)) + reference_of run at bits (group_of run at g m)

-- The recurrence, over what is stored for each value: the first two packed values are not used, X(1) and X(2) are the first value and the
-- second. For later ones Y is what is stored and Zmin, and X(n) is Y + 2 X(n-1) - X(n-2).
unfoldable pub integer : Differencing → (ℕ → ℕ) → ℕ → ℤ
integer d stored zero = pos d.first
integer d stored (suc zero) = pos d.second
integer d stored (suc (suc m)) = pos (stored (suc (suc m))) +ℤ whole d.zmin +ℤ pos 2 *ℤ integer d stored (suc m) -ℤ integer d stored m

-- The integer X numbered m of the section 7 at s, by what section 5 says.
abbrev pub integer_by : List ℕ → ℕ → ℕ → Template → ℕ → ℤ
integer_by file s bits Template.Simple m = pos (simple_integer (octets_in file s) bits m)
integer_by file s bits (Template.Complex g) m = integer (differencing_at file s g.extra) (stored_at (octets_in file s) (layout_of bits g) bits g) m

abbrev pub integer_at : List ℕ → ℕ → Representation → ℕ → ℤ
integer_at file s r m = integer_by file s r.bits r.template m

-- Refusal 16: the integers of the first so many values are all from 0 to 2,147,483,647.
unfoldable pub are_in_range : (ℕ → ℤ) → ℕ → Bool
are_in_range x zero = true
are_in_range x (suc n) = are_in_range x n && is_in_range (x n)
