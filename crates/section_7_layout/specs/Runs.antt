-- RULES, "Section 7": where the runs of a section's groups lie, and what stands before them.
use Rattle.std.specs.Prelude.{ℕ, ◌+◌, ◌*◌, ◌^◌, ◌≤◌, ◌<◌, cond, List, eqb}
use Rattle.octets.specs.declared.OctetNumber.{OctetNumber}
use Rattle.octets.specs.Places.{first_bit}
use Rattle.section.specs.Sections.{held, held_signed}
use Rattle.bits.specs.Bits.{bits_at, octets_of}
use Rattle.section_5_groups.specs.declared.Grouping.{Grouping}
use Rattle.section_7_layout.specs.declared.Differencing.{Differencing}
use Rattle.section_7_layout.specs.declared.Layout.{Layout}

-- Complex packing begins with the first value, the second, and Zmin, the least of the second differences, of w octets each. The two values
-- have no sign; Zmin has one, in its top bit.
abbrev pub differencing_at : List ℕ → ℕ → ℕ → Differencing
differencing_at file s w = record { first = held file s 6 (5 + w); second = held file s (6 + w) (5 + 2 * w); zmin = held_signed file s (6 + 2 * w) (5 + 3 * w) }

-- Behind these stand the references of all groups, their widths, their scaled lengths, and the packed values. Each of these four runs starts
-- on a new octet: these are the octets' numbers.
module _ (bits : ℕ) (g : Grouping) where
  abbrev pub references_from : ℕ
  references_from = 6 + 3 * g.extra

  abbrev pub widths_from : ℕ
  widths_from = references_from + octets_of (g.groups * bits)

  abbrev pub lengths_from : ℕ
  lengths_from = widths_from + octets_of (g.groups * g.widths.bits)

  abbrev pub packed_from : ℕ
  packed_from = lengths_from + octets_of (g.groups * g.lengths.bits)

  abbrev pub layout_of : Layout
  layout_of =
      record {
        references = record { 0 = references_from };
        widths = record { 0 = widths_from };
        lengths = record { 0 = lengths_from };
        packed = record { 0 = packed_from };
      }

-- The width of group i is the reference for widths and the number stored for it.
abbrev pub width_of : List ℕ → Layout → Grouping → ℕ → ℕ
width_of run at g i = g.widths.reference + bits_at run (first_bit at.widths.0 + i * g.widths.bits) g.widths.bits

-- Its length is the reference for lengths and so many increments as are stored for it. That of the last group is told in section 5, and what
-- is stored for it is not used.
abbrev pub scaled_length : List ℕ → Layout → Grouping → ℕ → ℕ
scaled_length run at g i = bits_at run (first_bit at.lengths.0 + i * g.lengths.bits) g.lengths.bits

abbrev pub length_of : List ℕ → Layout → Grouping → ℕ → ℕ
length_of run at g i = cond (eqb (i + 1) g.groups) g.lengths.last (g.lengths.reference + g.lengths.increment * scaled_length run at g i)

-- A run starts on one of its section's first 2^40 octets, so that the places of its bits are in the machine's numbers.
abbrev pub StartsNear : OctetNumber → Type 0
StartsNear first = (1 ≤ first.0) × (first.0 < 2 ^ 40)

-- What section 5 has judged before, so that no sum here leaves the machine's numbers.
pub record Limited (bits : ℕ) (g : Grouping) : Type 0 where
  pub of_numbers : bits ≤ 31
  pub of_widths : g.widths.reference ≤ 31
  pub of_width_bits : g.widths.bits ≤ 31
  pub of_length_bits : g.lengths.bits ≤ 31
  pub least_extra : 1 ≤ g.extra
  pub of_extra : g.extra ≤ 4
