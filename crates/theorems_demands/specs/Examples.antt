-- RULES, "Examples on either side": the examples that are proved, as one table. Each row cites the definition that the code is proved to meet.
use Rattle.std.specs.Prelude.{◌≡◌, Bool, true, false, List, [], ◌∷◌, ℕ, zero, suc, ℤ, pos, neg_ℤ, Some, Err}
use Rattle.std.specs.Float.{binary64}
use Rattle.std.specs.Float.Ieee.{of_bits, to_bits}
use Rattle.octets.specs.declared.Signed.{Signed}
use Rattle.octets.specs.Places.{at}
use Rattle.octets.specs.Numbers.{number_at, signed_of, whole}
use Rattle.bits.specs.Bits.{bits_at}
use Rattle.calendar.specs.declared.Time.{Time}
use Rattle.calendar.specs.declared.Unit.TheVariants as Unit
use Rattle.calendar.specs.Calendar.{date, plus}
use Rattle.doubles.specs.Doubles.{value_of}
use Rattle.section_3_geometry.specs.declared.DegreeGrid.{DegreeGrid}
use Rattle.section_3_geometry.specs.declared.LambertGrid.{LambertGrid}
use Rattle.section_3_geometry.specs.declared.Position.{Position}
use Rattle.section_3_geometry.specs.Geometry.{column_of, row_of, span_east, span_south}
use Rattle.section_3_positions.specs.Positions.{LiesAt}
use Rattle.section_3_lambert.specs.Sheet.{sheet_of}
use Rattle.section_6.specs.declared.Presence.TheVariants as Presence
use Rattle.section_6.specs.Presence.{bitmap_length, present_at}
use Rattle.section_5_groups.specs.declared.Grouping.{Grouping}
use Rattle.section_5.specs.declared.Template.TheVariants as Template
use Rattle.section_5.specs.declared.Representation.{Representation}
use Rattle.section_7.specs.Packing.{simple_length}
use Rattle.values_integers.specs.Integers.{integer_at}
use Rattle.refusals.specs.declared.Why.TheVariants as Why
use Rattle.refusals.specs.Refusals.{refusal}
use Rattle.question_picture.specs.Picture.{header, greys_of, pictured}
use Rattle.theorems_demands.specs.Sample.{strayed_field}

-- The signed number that octets hold.
abbrev signed_in : List ℕ → ℕ → ℤ
signed_in octets n = whole (signed_of n (number_at octets 0 n))

-- E or D, where it is not below 0.
abbrev plain : ℕ → Signed
plain size = record { negative = false; size = size }

-- A place: is its latitude below 0, how large is it, and its longitude. A grid of two columns and three rows that crosses 360 degrees and the equator.
abbrev lying : Bool → ℕ → ℕ → Position
lying below size longitude = record { latitude = record { negative = below; size = size }; longitude = longitude }

abbrev pub two_by_three : DegreeGrid
two_by_three = record { frame = record { earth = 6; radius = 6371229; ni = 2; nj = 3 }; first = lying false 1 359999999; last = lying true 1 0; di = 1; dj = 1 }

-- A section 7 of nine octets: its length and number, the first value 5, the second 7 and Zmin -1 in one octet each, and then the values 0, 0, 3
-- and 1 of one group, in two bits each. The group's reference is 0, and none of its numbers takes a bit.
abbrev section7 : List ℕ
section7 = 0 ∷ 0 ∷ 0 ∷ 9 ∷ 7 ∷ 5 ∷ 7 ∷ 0x81 ∷ 0x0d ∷ []

abbrev one_group : Grouping
one_group = record { groups = 1; widths = record { reference = 2; bits = 0 }; lengths = record { reference = 0; increment = 0; last = 4; bits = 0 }; extra = 1 }

abbrev in_one_group : Representation
in_one_group = record { n = 4; r = 0; e = plain 0; d = plain 0; bits = 0; template = Template.Complex one_group }

abbrev example_integer : ℕ → ℤ
example_integer m = integer_at section7 0 in_one_group m

-- A section 6 of seven octets: its length and number, the indicator 0, and a bitmap.
abbrev section6 : List ℕ
section6 = 0 ∷ 0 ∷ 0 ∷ 7 ∷ 6 ∷ 0 ∷ 0xa0 ∷ []

abbrev example_present : ℕ → ℕ
example_present i = present_at section6 (Presence.Own (at 0)) 4 i

-- The X of the first point, and of those behind it that are present.
abbrev example_x : ℕ → ℕ
example_x zero = 2912
example_x (suc i) = 2748

-- 2017-05, at a full hour.
abbrev may : ℕ → ℕ → Time
may day hour = record { date = date 2017 5 day; hour = hour; minute = 0; second = 0 }

-- The table.
pub record Examples : Type 0 where
  -- Sign and size, in two octets and in one. A set sign alone is zero.
  pub minus_one : signed_in (0x80 ∷ 0x01 ∷ []) 2 ≡ neg_ℤ (pos 1)
  pub minus_zero : signed_in (0x80 ∷ 0x00 ∷ []) 2 ≡ pos 0
  pub minus_two : signed_in (0x82 ∷ []) 1 ≡ neg_ℤ (pos 2)
  -- The section 6 with a bitmap for 1,514,461 points, and the section 7 with 349,363 values of 12 bits: their lengths.
  pub large_bitmap : bitmap_length 1514461 ≡ 189314
  pub many_values : simple_length 349363 12 ≡ 524050
  -- Three octets hold two numbers of 12 bits.
  pub first_twelve_bits : bits_at (0x12 ∷ 0x3a ∷ 0xbc ∷ []) 0 12 ≡ 291
  pub next_twelve_bits : bits_at (0x12 ∷ 0x3a ∷ 0xbc ∷ []) 12 12 ≡ 2748
  -- Second differences: the integers of the section above.
  pub second_differences : example_integer 0 ∷ example_integer 1 ∷ example_integer 2 ∷ example_integer 3 ∷ [] ≡ pos 5 ∷ pos 7 ∷ pos 11 ∷ pos 15 ∷ []
  -- R 1.5, E 1, D 0 and X 3 make 7.5. The single 1.5 is 3FC00000, and the double 7.5 is 401E000000000000.
  pub seven_and_a_half : value_of 0x3fc0_0000 (plain 1) (plain 0) 3 ≡ of_bits binary64 0x401e_0000_0000_0000
  -- R 0, E 0, D 1 and X 1 make the double nearest to a tenth.
  pub a_tenth : to_bits binary64 (value_of 0 (plain 0) (plain 1) 1) ≡ 0x3fb9_9999_9999_999a
  -- 84 hours after noon of 15 May 2017 the 19th begins.
  pub after_eighty_four_hours : plus (may 15 12) 84 Unit.Hour ≡ Some (may 19 0)
  -- Of four points, the bitmap 0xA0 has the first and the third.
  pub first_and_third : example_present 0 ∷ example_present 1 ∷ example_present 2 ∷ example_present 3 ∷ [] ≡ 1 ∷ 0 ∷ 1 ∷ 0 ∷ []
  -- On every grid of 1,422 columns from 116.969697 to 160.030303 degrees, column 1421 lies at 160.030303.
  pub column1421 :
      (g : DegreeGrid) (n : ℕ) (p : Position) →
      g.frame.ni ≡ 1422 → g.first.longitude ≡ 116969697 → g.last.longitude ≡ 160030303 → column_of g.frame n ≡ 1421 → LiesAt g n p → p.longitude ≡ 160030303
  -- The six points of a grid, along its rows.
  pub six_points :
      LiesAt two_by_three 0 (lying false 1 359999999)
      × LiesAt two_by_three 1 (lying false 1 0)
      × LiesAt two_by_three 2 (lying false 0 359999999)
      × LiesAt two_by_three 3 (lying false 0 0)
      × LiesAt two_by_three 4 (lying true 1 359999999)
      × LiesAt two_by_three 5 (lying true 1 0)
  -- In the middle of a span of one millionth of a degree, a half goes east, and a half goes south.
  pub half_east : (g : DegreeGrid) (n : ℕ) (p : Position) → g.frame.ni ≡ 3 → span_east g ≡ 1 → column_of g.frame n ≡ 1 → (l : LiesAt g n p) → l.east ≡ 1
  pub half_south : (g : DegreeGrid) (n : ℕ) (p : Position) → g.frame.nj ≡ 3 → span_south g ≡ 1 → row_of g.frame n ≡ 1 → (l : LiesAt g n p) → l.south ≡ 1
  -- Of a sheet of 817 x 661 points, 5 km apart, the last lies 4,080 km to the right of the first and 3,300 km below it. Point 817 is the first of the second row.
  pub last_on_sheet : (g : LambertGrid) → g.frame.ni ≡ 817 → g.dx ≡ 5000000 → g.dy ≡ 5000000 → sheet_of g 540036 ≡ record { right = 4080000000; down = 3300000000 }
  pub second_row : (g : LambertGrid) → g.frame.ni ≡ 817 → sheet_of g 817 ≡ record { right = 0; down = g.dy }
  -- A picture of two columns and three rows begins with these lines.
  pub lines_of_six : header two_by_three.frame ≡ 0x50 ∷ 0x35 ∷ 0x0a ∷ 0x32 ∷ 0x20 ∷ 0x33 ∷ 0x0a ∷ 0x32 ∷ 0x35 ∷ 0x35 ∷ 0x0a ∷ []
  -- Of the four points above, the first with X 2912 is white, the third with X 2748 is nearly so, and the two that are missing are black.
  pub four_greys : greys_of example_present example_x 4 ≡ 255 ∷ 0 ∷ 240 ∷ 0 ∷ []
  -- The field that strays has 2 x 2 points. Its picture is refused for a run that is one octet too short, and for its integers where the run is long enough.
  pub room_first : pictured strayed_field 0 14 ≡ Err (refusal Why.NoRoom 0)
  pub range_behind : pictured strayed_field 0 15 ≡ Err (refusal Why.ValueOutOfRange 199)
