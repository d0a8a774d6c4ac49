-- RULES, "Section 7": whether the groups of a section add up, how long the section is, and what it holds.
use Rattle.std.specs.Prelude.{ℕ, zero, suc, ◌+◌, ◌-◌, ◌*◌, ◌≤◌, Bool, true, false, ◌&&◌, cond, List, eqb, leb, Option, Some, None}
use Rattle.section.specs.Sections.{length_at, octets_in}
use Rattle.bits.specs.Bits.{octets_of}
use Rattle.section_5_groups.specs.declared.Grouping.{Grouping}
use Rattle.section_5.specs.declared.Template.{Template}
use Rattle.section_5.specs.declared.Representation.{Representation}
use Rattle.section_7_layout.specs.declared.Layout.{Layout}
use Rattle.section_7_layout.specs.Runs.{differencing_at, layout_of, width_of, length_of, Limited}
use Rattle.section_7.specs.declared.Groups.{Groups}
use Rattle.section_7.specs.declared.Data.{Data}

-- Simple packing: N numbers of so many bits each, behind the section's five octets.
abbrev pub simple_length : ℕ → ℕ → ℕ
simple_length n bits = 5 + octets_of (n * bits)

-- The values in the first so many groups, and the bits that they take: groups follow one another with no gap.
unfoldable pub values_before : List ℕ → Layout → Grouping → ℕ → ℕ
values_before run at g zero = 0
values_before run at g (suc i) = values_before run at g i + length_of run at g i

unfoldable pub bits_before : List ℕ → Layout → Grouping → ℕ → ℕ
bits_before run at g zero = 0
bits_before run at g (suc i) = bits_before run at g i + width_of run at g i * length_of run at g i

-- Each group has a width of at most 31 and a length of at least 1.
unfoldable pub are_sound : List ℕ → Layout → Grouping → ℕ → Bool
are_sound run at g zero = true
are_sound run at g (suc i) = are_sound run at g i && leb (width_of run at g i) 31 && leb 1 (length_of run at g i)

-- The plan of the groups: they are sound, and their lengths add up to N. It tells how many bits the packed values take.
abbrev pub plan_of : List ℕ → Layout → Grouping → ℕ → Option ℕ
plan_of run at g n = cond (are_sound run at g g.groups && eqb (values_before run at g g.groups) n) (Some (bits_before run at g g.groups)) None

-- The section ends with the octet that holds the last bit.
abbrev pub ends_with : ℕ → Layout → Option ℕ → Bool
ends_with length at (Some bits) = eqb length (at.packed.0 - 1 + octets_of bits)
ends_with length at None = false

-- The groups of the section at s add up, and the section ends with them.
abbrev pub is_grouped : List ℕ → ℕ → ℕ → ℕ → Grouping → Bool
is_grouped file s n bits g = ends_with (length_at file s) (layout_of bits g) (plan_of (octets_in file s) (layout_of bits g) g n)

-- The groups of the section at s.
abbrev pub groups_in : List ℕ → ℕ → ℕ → Grouping → Groups
groups_in file s bits g = record { layout = layout_of bits g; grouping = g; bits = bits; differencing = differencing_at file s g.extra }

-- What the section at s holds. It is taken where it holds the N values of a representation, and nothing else.
abbrev pub grouped_at : List ℕ → ℕ → ℕ → ℕ → Grouping → Option Data
grouped_at file s n bits g = cond (is_grouped file s n bits g) (Some (Data.Complex (groups_in file s bits g))) None

abbrev pub packed_by : List ℕ → ℕ → ℕ → ℕ → Template → Option Data
packed_by file s n bits Template.Simple = cond (eqb (length_at file s) (simple_length n bits)) (Some Data.Simple) None
packed_by file s n bits (Template.Complex g) = grouped_at file s n bits g

unfoldable pub data_at : List ℕ → ℕ → Representation → Option Data
data_at file s r = packed_by file s r.n r.bits r.template

-- What section 5 has judged before, so that no sum here leaves the machine's numbers.
abbrev pub LimitedBy : ℕ → Template → Type 0
LimitedBy bits Template.Simple = bits ≤ 31
LimitedBy bits (Template.Complex g) = Limited bits g
