-- RULES, "Section 5": how the values of a field are packed.
use Rattle.std.specs.Prelude.{ℕ, Bool, ◌&&◌, cond, List, eqb, leb, Option, Some, None}
use Rattle.std.specs.Float.{binary32}
use Rattle.std.specs.Float.Ieee.{of_bits}
use Rattle.std.specs.Float.Ieee.Scale.{finite}
use Rattle.section.specs.Sections.{octet, held, held_signed, length_at}
use Rattle.section_5_groups.specs.Groups.{grouping_at, is_differenced, is_grouping}
use Rattle.section_5.specs.declared.Template.{Template}
use Rattle.section_5.specs.declared.Representation.{Representation}

-- R, in octets 12-15, is finite; E, in 16-17, is from -127 to 127, and D, in 18-19, from -22 to 22; a number has 0 to 31 bits (octet 20), and
-- the values were doubles before (octet 21 is zero).
abbrev pub is_scaled : List ℕ → ℕ → Bool
is_scaled file s =
    finite (of_bits binary32 (held file s 12 15))
    && leb (held_signed file s 16 17).size 127
    && leb (held_signed file s 18 19).size 22
    && leb (octet file s 20) 31
    && eqb (octet file s 21) 0

abbrev pub complex_at : List ℕ → ℕ → Option Template
complex_at file s = cond (is_differenced file s && is_grouping (grouping_at file s) (held file s 6 9)) (Some (Template.Complex (grouping_at file s))) None

-- Octets 10-11 hold the template: 0, simple packing, in a section of 21 octets, or 3, complex packing with spatial differencing, in one of 49.
abbrev pub data_template_at : List ℕ → ℕ → Option Template
data_template_at file s =
    cond (eqb (length_at file s) 21 && eqb (held file s 10 11) 0) (Some Template.Simple)
    (cond (eqb (length_at file s) 49 && eqb (held file s 10 11) 3) (complex_at file s)
    None)

-- N stands in octets 6-9. R is told by its 32 bits.
abbrev pub representation_with : List ℕ → ℕ → Template → Representation
representation_with file s template =
    record {
      n = held file s 6 9;
      r = held file s 12 15;
      e = held_signed file s 16 17;
      d = held_signed file s 18 19;
      bits = octet file s 20;
      template = template;
    }

abbrev pub represented_by : List ℕ → ℕ → Option Template → Option Representation
represented_by file s (Some template) = cond (is_scaled file s) (Some (representation_with file s template)) None
represented_by file s None = None

-- What the section 5 at s says, or that it is not taken.
unfoldable pub representation_at : List ℕ → ℕ → Option Representation
representation_at file s = represented_by file s (data_template_at file s)

-- The number of each data template.
abbrev pub template_number : Template → ℕ
template_number Template.Simple = 0
template_number (Template.Complex g) = 3
