-- There is no impostor: the rules' file of two fields, and the field that strays, tell each of them from a function that meets the contract.
use Prim.Native.Nat.{ℕ, ◌+◌, ◌*◌, ◌^◌}
use mathlib.Core.Path.{◌≡◌, refl, sym, ap, ◌∙◌}
use mathlib.Core.List.{List, [], ◌∷◌}
use native.Mathlib.Omega.{arith}
use lib.Ieee.{of_bits}
use lib.ListN.{get_or}
use Rattle.octets.specs.Numbers.{number_at}
use Rattle.bits.specs.Bits.{bit_at, bits_at}
use Rattle.bits_ones.specs.Ones.{ones_before}
use Rattle.calendar.specs.Calendar.{is_leap, month_length, tomorrow, days_after}
use Rattle.laws_machine.specs.Machine.{run, run_for}
use Rattle.tiling_sections.specs.Walk.{section_at, starts_after, bitmap_after}
use Rattle.tiling.specs.Tiling.{header_at, message}
use Rattle.section_1.specs.Identification.{identification_at}
use Rattle.section_3.specs.Section3.{grid_at}
use Rattle.section_4.specs.Product.{product_definition_at}
use Rattle.section_5.specs.Representation.{representation_at}
use Rattle.section_6.specs.Presence.{present_before, presence_at}
use Rattle.section_7.specs.Packing.{values_before, bits_before, are_sound, data_at}
use Rattle.values_integers.specs.Integers.{group_among, stored_at, integer, are_in_range}
use Rattle.laws_rows.specs.Rows.{row}
use Rattle.text.specs.Text.{spelt}
use Rattle.question.specs.declared.Description.{Description}
use Rattle.question.specs.Describe.{described_at, describe}
use Rattle.section_3_geometry.specs.Geometry.{frame_of}
use Rattle.question_decode.specs.Decoding.{answer}
use Rattle.question_picture.specs.Picture.{largest_present, picture_length}
use Rattle.skeptolyr.specs.Codes.{decode_code}
use Rattle.theorems_demands.specs.Sample.{two_fields, strayed_field}
use Rattle.theorems_calls.specs.PointImpostors.{RefusedByDecode}
use Rattle.theorems_calls.specs.PictureImpostors.{Printed, printed, NoImpostorForPicture}
use Rattle.std.specs.Prelude.{Result, Ok, Err}
use Rattle.refusals.specs.declared.Refusal.{Refusal}

-- A run of as many sevens as the octets of a picture of 2 x 2 points.
abbrev fifteen : List ℕ
fifteen = 7 ∷ 7 ∷ 7 ∷ 7 ∷ 7 ∷ 7 ∷ 7 ∷ 7 ∷ 7 ∷ 7 ∷ 7 ∷ 7 ∷ 7 ∷ 7 ∷ 7 ∷ []

-- How long the picture of a field is, where it is described.
abbrev length_in : Result Description Refusal → ℕ
length_in (Ok d) = picture_length (frame_of d.grid)
length_in (Err r) = 0

-- The first field has X 2912 and 2748 at points 0 and 2. The second one has other greys at the same points. The field that strays is refused with 16, as it is by decode, and with 15
-- where the run is empty.
pub record OfThePictures : Type 0 where
  pub first : printed two_fields 0 fifteen ≡ record { answer = 15; run = 0x50 ∷ 0x35 ∷ 10 ∷ 0x32 ∷ 0x20 ∷ 0x32 ∷ 10 ∷ 0x32 ∷ 0x35 ∷ 0x35 ∷ 10 ∷ 255 ∷ 0 ∷ 240 ∷ 0 ∷ [] }
  pub second : printed two_fields 1 fifteen ≡ record { answer = 15; run = 0x50 ∷ 0x35 ∷ 10 ∷ 0x32 ∷ 0x20 ∷ 0x32 ∷ 10 ∷ 0x32 ∷ 0x35 ∷ 0x35 ∷ 10 ∷ 182 ∷ 0 ∷ 255 ∷ 0 ∷ [] }
  pub strayed : (printed strayed_field 0 fifteen).answer ≡ 2 ^ 63 + 16 * 2 ^ 32 + 199
  pub cramped : (printed strayed_field 0 []).answer ≡ 2 ^ 63 + 15 * 2 ^ 32
  pub long : length_in (describe strayed_field 0) ≡ 15
  pub refused : decode_code (answer strayed_field 0 0 16777216 16777216) ≡ 2 ^ 63 + 16 * 2 ^ 32 + 199

sample : OfThePictures
unfolding two_fields strayed_field number_at run run_for section_at starts_after bitmap_after header_at message identification_at grid_at product_definition_at representation_at presence_at ones_before present_before data_at values_before bits_before are_sound group_among stored_at integer are_in_range described_at bit_at bits_at is_leap month_length tomorrow days_after row spelt largest_present of_bits
sample = record { first = refl; second = refl; strayed = refl; cramped = refl; long = refl; refused = refl }

strays : RefusedByDecode strayed_field 0
strays = omega (arith, sample.refused)

abbrev answer_in : Printed → ℕ
answer_in p = p.answer

-- The octet at place 11, which is that of the first point, and the one behind it.
abbrev first_grey : Printed → ℕ
first_grey p = get_or p.run 11 0

abbrev next_grey : Printed → ℕ
next_grey p = get_or p.run 12 0

-- The field that strays is described, and its picture would fit.
strayed_field_lem : (a : Result Description Refusal) → describe strayed_field 0 ≡ a → length_in a ≡ 15 → (d : Description) × (describe strayed_field 0 ≡ Ok d) × (picture_length (frame_of d.grid) ≡ 15)
strayed_field_lem (Ok d) said long = (d, said, long)
strayed_field_lem (Err r) said long = absurd (omega (arith, long))

there : (d : Description) × (describe strayed_field 0 ≡ Ok d) × (picture_length (frame_of d.grid) ≡ 15)
there = strayed_field_lem (describe strayed_field 0) refl sample.long

pub no_impostor_for_picture : NoImpostorForPicture
no_impostor_for_picture =
    record {
      draws_nothing = λ f meets same.
          let kept : first_grey (printed two_fields 0 fifteen) ≡ 7 = ap first_grey (sym (meets two_fields 0 fifteen)) ∙ ap (λ (run : List ℕ). get_or run 11 0) (same two_fields 0 fifteen) in
          absurd (omega (arith, kept, ap first_grey sample.first));
      draws_field_0 = λ f meets same.
          let answered = ap answer_in (meets two_fields 1 fifteen) ∙ ap answer_in sample.second in
          let alike : printed two_fields 1 fifteen ≡ printed two_fields 0 fifteen = sym (meets two_fields 1 fifteen) ∙ same two_fields 1 fifteen (omega (arith, answered)) ∙ meets two_fields 0 fifteen in
          absurd (omega (arith, ap first_grey alike, ap first_grey sample.first, ap first_grey sample.second));
      draws_none_black = λ f meets none.
          let drawn = meets two_fields 0 fifteen ∙ sample.first in
          absurd (omega (arith, none two_fields 0 fifteen 12 (omega (arith, ap answer_in drawn)) (omega (arith, ap answer_in drawn)), ap next_grey drawn));
      draws_none_white = λ f meets none.
          let drawn = meets two_fields 0 fifteen ∙ sample.first in
          absurd (omega (arith, none two_fields 0 fifteen 11 (omega (arith, ap answer_in drawn)) (omega (arith, ap answer_in drawn)), ap first_grey drawn));
      looks_at_integers_first = λ f meets first.
          absurd (omega (arith, ap answer_in (meets strayed_field 0 []), first strayed_field 0 [] strays, sample.cramped, sample.refused));
      draws_every_field = λ f meets all.
          let told = all strayed_field 0 there.0 fifteen there.1 (omega (arith, there.2)) in
          absurd (omega (arith, told, ap answer_in (meets strayed_field 0 fifteen), sample.strayed));
    }
