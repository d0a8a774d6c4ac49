-- There is no impostor: the rules' file of two fields tells each of them from a function that meets the contracts.
use Prim.Native.Nat.{ℕ, ◌+◌, ◌*◌, ◌^◌}
use mathlib.Core.Path.{◌≡◌, refl, sym, ap, ◌∙◌}
use mathlib.Core.List.{List, [], ◌∷◌}
use native.Mathlib.Omega.{arith}
use lib.IntN.{ℤ, pos}
use lib.ListN.{get_or}
use lib.Ieee.{of_bits}
use Rattle.octets.specs.Numbers.{number_at}
use Rattle.laws_rows.specs.Rows.{row}
use Rattle.bits.specs.Bits.{bit_at, bits_at}
use Rattle.bits_ones.specs.Ones.{ones_before}
use Rattle.calendar.specs.Calendar.{is_leap, month_length, tomorrow, days_after}
use Rattle.laws_machine.specs.Machine.{run, run_for}
use Rattle.tiling_sections.specs.Walk.{section_at, starts_after, bitmap_after}
use Rattle.tiling.specs.Tiling.{header_at, message}
use Rattle.section_1.specs.Identification.{identification_at}
use Rattle.section_3.specs.Section3.{grid_at}
use Rattle.section_4.specs.Product.{product_definition_at}
use Rattle.section_5.specs.Representation.{representation_at}
use Rattle.section_6.specs.Presence.{present_before, presence_at}
use Rattle.section_7.specs.Packing.{data_at}
use Rattle.section_3_geometry.specs.declared.DegreeGrid.{DegreeGrid}
use Rattle.section_3_geometry.specs.declared.LambertGrid.{LambertGrid}
use Rattle.question.specs.Describe.{described_at}
use Rattle.question_place.specs.Place.{on_degrees, on_lambert}
use Rattle.skeptolyr.specs.Codes.{numbers_code, numbers_left, described_for, placed_for, sheet_for}
use Rattle.theorems_demands.specs.Sample.{two_fields, field_in_a_row, field_on_a_sheet}
use Rattle.theorems_calls.specs.Impostors.{Told, by_steps, rounded_down, swapped, upward, wrongly_placed, wrongly_on_sheet, NoImpostorForC}

-- Runs of zeros, with room for a description and for a place.
abbrev zeros : List ℤ
zeros = row (λ _. pos 0) 53

abbrev two_zeros : List ℤ
two_zeros = pos 0 ∷ pos 0 ∷ []

abbrev described : ℕ → List ℤ
described k = numbers_left zeros (described_for two_fields k zeros)

abbrev placed : ℕ → List ℤ
placed n = numbers_left two_zeros (placed_for two_fields 0 n two_zeros)

-- The same in a row of four, and on a sheet, and what the impostors would put there.
abbrev in_a_row : ℕ → List ℤ
in_a_row n = numbers_left two_zeros (placed_for field_in_a_row 0 n two_zeros)

abbrev wrongly_in_a_row : (ℕ → DegreeGrid → List ℤ) → ℕ → List ℤ
wrongly_in_a_row told n = numbers_left two_zeros (wrongly_placed (told n) (on_degrees field_in_a_row 0 n 2))

abbrev rolled : ℕ → List ℤ
rolled n = numbers_left two_zeros (sheet_for field_on_a_sheet 0 n two_zeros)

abbrev wrongly_rolled : (ℕ → LambertGrid → List ℤ) → ℕ → List ℤ
wrongly_rolled told n = numbers_left two_zeros (wrongly_on_sheet (told n) (on_lambert field_on_a_sheet 0 n 2))

-- The first field is of category 0, temperature, and the second of category 1, moisture; the radius of both is 6,371,229 m. Point 0 of the first lies at 36
-- degrees north and 135 degrees east, and point 1 a degree farther east. In a row from 135 to 136.000001 degrees, point 1 lies a third of the way, as the nearest
-- number, and point 3 at its end. On the sheet, point 3 lies 5 km to the right of the first and 4 km below it. Degrees are not told there, nor a sheet's places
-- of the first field.
pub record InTheSample : Type 0 where
  pub radius : get_or (described 0) 9 (pos 0) ≡ pos 6371229
  pub temperature : get_or (described 0) 19 (pos 0) ≡ pos 0
  pub moisture : get_or (described 1) 19 (pos 0) ≡ pos 1
  pub point_0 : placed 0 ≡ pos 36000000 ∷ pos 135000000 ∷ []
  pub point_1 : placed 1 ≡ pos 36000000 ∷ pos 136000000 ∷ []
  pub third : in_a_row 1 ≡ pos 36000000 ∷ pos 135333334 ∷ []
  pub third_rounded_down : wrongly_in_a_row rounded_down 1 ≡ pos 36000000 ∷ pos 135333333 ∷ []
  pub end : in_a_row 3 ≡ pos 36000000 ∷ pos 136000001 ∷ []
  pub end_by_steps : wrongly_in_a_row by_steps 3 ≡ pos 36000000 ∷ pos 135999999 ∷ []
  pub zero : get_or zeros 9 (pos 0) ≡ pos 0
  pub corner : rolled 0 ≡ pos 0 ∷ pos 0 ∷ []
  pub opposite : rolled 3 ≡ pos 5000000 ∷ pos 4000000 ∷ []
  pub opposite_swapped : wrongly_rolled swapped 3 ≡ pos 4000000 ∷ pos 5000000 ∷ []
  pub opposite_upward : wrongly_rolled upward 3 ≡ pos 5000000 ∷ pos 0 ∷ []
  pub sheet_answered : numbers_code (sheet_for field_on_a_sheet 0 0 two_zeros) ≡ 2
  pub degrees_refused : numbers_code (placed_for field_on_a_sheet 0 0 two_zeros) ≡ 2 ^ 63 + 20 * 2 ^ 32
  pub degrees_answered : numbers_code (placed_for two_fields 0 0 two_zeros) ≡ 2
  pub sheet_refused : numbers_code (sheet_for two_fields 0 0 two_zeros) ≡ 2 ^ 63 + 20 * 2 ^ 32

sample : InTheSample
unfolding two_fields field_in_a_row field_on_a_sheet number_at run run_for section_at starts_after bitmap_after header_at message identification_at grid_at product_definition_at representation_at presence_at ones_before present_before data_at described_at row bit_at bits_at is_leap month_length tomorrow days_after of_bits
sample =
    record {
      radius = refl;
      temperature = refl;
      moisture = refl;
      point_0 = refl;
      point_1 = refl;
      third = refl;
      third_rounded_down = refl;
      end = refl;
      end_by_steps = refl;
      zero = refl;
      corner = refl;
      opposite = refl;
      opposite_swapped = refl;
      opposite_upward = refl;
      sheet_answered = refl;
      degrees_refused = refl;
      degrees_answered = refl;
      sheet_refused = refl;
    }

-- Two numbers without a sign are the same only where their sizes are.
unlike : {A : Type 0} {m n : ℕ} → pos m ≡ pos n → (m ≡ n → A) → A
unlike e other = other cc

longitude : {a b c d : ℤ} → a ∷ b ∷ [] ≡ c ∷ d ∷ [] → b ≡ d
longitude e = ap (λ (run : List ℤ). get_or run 1 (pos 0)) e

pub no_impostor_for_c : NoImpostorForC
no_impostor_for_c =
    record {
      describes_field_0 = λ f meets same.
          let alike : described 1 ≡ described 0 = ap (λ (t : Told). t.run) (sym (meets two_fields 1 zeros)) ∙ same two_fields 1 zeros ∙ ap (λ (t : Told). t.run) (meets two_fields 0 zeros) in
          unlike (sym sample.moisture ∙ ap (λ (numbers : List ℤ). get_or numbers 19 (pos 0)) alike ∙ sample.temperature) (λ e. omega (arith, e));
      describes_nothing = λ f meets same.
          let alike : described 0 ≡ zeros = ap (λ (t : Told). t.run) (sym (meets two_fields 0 zeros)) ∙ same two_fields 0 zeros in
          unlike (sym sample.radius ∙ ap (λ (numbers : List ℤ). get_or numbers 9 (pos 0)) alike ∙ sample.zero) (λ e. omega (arith, e));
      places_point_0 = λ f meets same.
          let alike : placed 1 ≡ placed 0 = ap (λ (t : Told). t.run) (sym (meets two_fields 0 1 two_zeros)) ∙ same two_fields 0 1 two_zeros ∙ ap (λ (t : Told). t.run) (meets two_fields 0 0 two_zeros) in
          unlike (longitude (sym sample.point_1 ∙ alike ∙ sample.point_0)) (λ e. omega (arith, e));
      places_nothing = λ f meets same.
          let alike : placed 0 ≡ two_zeros = ap (λ (t : Told). t.run) (sym (meets two_fields 0 0 two_zeros)) ∙ same two_fields 0 0 two_zeros in
          unlike (longitude (sym sample.point_0 ∙ alike)) (λ e. omega (arith, e));
      places_by_steps = λ f meets same.
          let alike : in_a_row 3 ≡ wrongly_in_a_row by_steps 3 = ap (λ (t : Told). t.run) (sym (meets field_in_a_row 0 3 two_zeros)) ∙ same field_in_a_row 0 3 two_zeros in
          unlike (longitude (sym sample.end ∙ alike ∙ sample.end_by_steps)) (λ e. omega (arith, e));
      places_rounded_down = λ f meets same.
          let alike : in_a_row 1 ≡ wrongly_in_a_row rounded_down 1 = ap (λ (t : Told). t.run) (sym (meets field_in_a_row 0 1 two_zeros)) ∙ same field_in_a_row 0 1 two_zeros in
          unlike (longitude (sym sample.third ∙ alike ∙ sample.third_rounded_down)) (λ e. omega (arith, e));
      rolls_point_0 = λ f meets same.
          let alike : rolled 3 ≡ rolled 0 = ap (λ (t : Told). t.run) (sym (meets field_on_a_sheet 0 3 two_zeros)) ∙ same field_on_a_sheet 0 3 two_zeros ∙ ap (λ (t : Told). t.run) (meets field_on_a_sheet 0 0 two_zeros) in
          unlike (longitude (sym sample.opposite ∙ alike ∙ sample.corner)) (λ e. omega (arith, e));
      rolls_nothing = λ f meets same.
          let alike : rolled 3 ≡ two_zeros = ap (λ (t : Told). t.run) (sym (meets field_on_a_sheet 0 3 two_zeros)) ∙ same field_on_a_sheet 0 3 two_zeros in
          unlike (longitude (sym sample.opposite ∙ alike)) (λ e. omega (arith, e));
      rolls_swapped = λ f meets same.
          let alike : rolled 3 ≡ wrongly_rolled swapped 3 = ap (λ (t : Told). t.run) (sym (meets field_on_a_sheet 0 3 two_zeros)) ∙ same field_on_a_sheet 0 3 two_zeros in
          unlike (longitude (sym sample.opposite ∙ alike ∙ sample.opposite_swapped)) (λ e. omega (arith, e));
      rolls_upward = λ f meets same.
          let alike : rolled 3 ≡ wrongly_rolled upward 3 = ap (λ (t : Told). t.run) (sym (meets field_on_a_sheet 0 3 two_zeros)) ∙ same field_on_a_sheet 0 3 two_zeros in
          unlike (longitude (sym sample.opposite ∙ alike ∙ sample.opposite_upward)) (λ e. omega (arith, e));
      degrees_for_lambert = λ f h meets rolls always.
          let told : (f field_on_a_sheet 0 0 two_zeros).answer ≡ 2 = always field_on_a_sheet 0 0 two_zeros (ap (λ (t : Told). t.answer) (rolls field_on_a_sheet 0 0 two_zeros) ∙ sample.sheet_answered) in
          let alike : 2 ≡ 2 ^ 63 + 20 * 2 ^ 32 = sym told ∙ ap (λ (t : Told). t.answer) (meets field_on_a_sheet 0 0 two_zeros) ∙ sample.degrees_refused in
          absurd (omega (arith, alike));
      sheet_for_degrees = λ f h meets rolls always.
          let told : (h two_fields 0 0 two_zeros).answer ≡ 2 = always two_fields 0 0 two_zeros (ap (λ (t : Told). t.answer) (meets two_fields 0 0 two_zeros) ∙ sample.degrees_answered) in
          let alike : 2 ≡ 2 ^ 63 + 20 * 2 ^ 32 = sym told ∙ ap (λ (t : Told). t.answer) (rolls two_fields 0 0 two_zeros) ∙ sample.sheet_refused in
          absurd (omega (arith, alike));
    }
