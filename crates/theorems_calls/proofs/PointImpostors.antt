-- There is no impostor: the rules' file of two fields, and the field that strays, tell each of them from a function that meets the contract.
use Prim.Native.Nat.{ℕ, ◌+◌, ◌*◌, ◌^◌}
use mathlib.Core.Path.{◌≡◌, refl, sym, ap, ◌∙◌}
use mathlib.Core.Bool.{false}
use mathlib.Core.List.{List, [], ◌∷◌}
use native.Mathlib.Omega.{arith}
use lib.IntN.{pos}
use lib.ListN.{get_or}
use lib.Ieee.{Float, fin, binary64, add, mul, div, of_int, of_bits, to_bits}
use Rattle.octets.specs.Numbers.{number_at}
use Rattle.bits.specs.Bits.{bit_at, bits_at}
use Rattle.bits_ones.specs.Ones.{ones_before}
use Rattle.calendar.specs.Calendar.{is_leap, month_length, tomorrow, days_after}
use Rattle.doubles.specs.Doubles.{sum_of, scaled_by}
use Rattle.laws_machine.specs.Machine.{run, run_for}
use Rattle.tiling_sections.specs.Walk.{section_at, starts_after, bitmap_after}
use Rattle.tiling.specs.Tiling.{header_at, message}
use Rattle.section_1.specs.Identification.{identification_at}
use Rattle.section_3.specs.Section3.{grid_at}
use Rattle.section_4.specs.Product.{product_definition_at}
use Rattle.section_5.specs.Representation.{representation_at}
use Rattle.section_6.specs.Presence.{present_before, presence_at}
use Rattle.section_7.specs.Packing.{values_before, bits_before, are_sound, data_at}
use Rattle.values_integers.specs.Integers.{group_among, stored_at, integer, are_in_range}
use Rattle.section_3_geometry.specs.Geometry.{points_of}
use Rattle.question.specs.Describe.{described_at, describe}
use Rattle.question_decode.specs.Decoding.{answer}
use Rattle.question_point.specs.Point.{point_into}
use Rattle.question_point.proofs.Laws.{Told, answered_point}
use Rattle.skeptolyr.specs.Codes.{decode_code, point_code}
use Rattle.theorems_demands.specs.Sample.{two_fields, strayed_field}
use Rattle.theorems_demands.specs.Demand2.{HasPoint}
use Rattle.theorems_calls.specs.PointImpostors.{Shown, shown, RefusedByDecode, NoImpostorForPoint}
use Rattle.std.specs.Prelude.{None, Result, Ok, Err}
use Rattle.question.specs.declared.Description.{Description}
use Rattle.refusals.specs.declared.Refusal.{Refusal}

-- A run of one zero.
abbrev one_zero : List Float
one_zero = fin false 0 (pos 0) ∷ []

-- How many points a field has, where it is described.
abbrev points_in : Result Description Refusal → ℕ
points_in (Ok d) = points_of d.grid
points_in (Err r) = 0

-- Of the first field, point 0 is 291.2 and point 1 is missing. Of the field that strays, point 0 is told, point 1 is missing, and point 3 is refused with 16, as the
-- field is by decode: section 7 starts at 199. It has four points.
pub record OfThePoints : Type 0 where
  pub first : shown two_fields 0 0 one_zero ≡ record { answer = 1; run = of_bits binary64 0x4072_3333_3333_3333 ∷ [] }
  pub second : point_into two_fields 0 1 1 ≡ Ok None
  pub told : (shown strayed_field 0 0 one_zero).answer ≡ 1
  pub missing : point_into strayed_field 0 1 1 ≡ Ok None
  pub strayed : (shown strayed_field 0 3 one_zero).answer ≡ 2 ^ 63 + 16 * 2 ^ 32 + 199
  pub four : points_in (describe strayed_field 0) ≡ 4
  pub refused : decode_code (answer strayed_field 0 0 16777216 16777216) ≡ 2 ^ 63 + 16 * 2 ^ 32 + 199

sample : OfThePoints
unfolding two_fields strayed_field number_at run run_for section_at starts_after bitmap_after header_at message identification_at grid_at product_definition_at representation_at presence_at ones_before present_before data_at values_before bits_before are_sound group_among stored_at integer are_in_range described_at bit_at bits_at is_leap month_length tomorrow days_after sum_of scaled_by add mul div of_int of_bits
sample = record { first = refl; second = refl; told = refl; missing = refl; strayed = refl; four = refl; refused = refl }

-- The missing points are points that their fields have, and so is the last of the field that strays.
missing_told : Told two_fields 0 1 (Ok None)
missing_told = answered_point two_fields 0 1 1 (Ok None) sample.second tt

missing_there : HasPoint two_fields 0 1 missing_told.d.grid
missing_there = record { d = missing_told.d; describes = missing_told.describes; grid = refl; below = missing_told.below }

strayed_told : Told strayed_field 0 1 (Ok None)
strayed_told = answered_point strayed_field 0 1 1 (Ok None) sample.missing tt

strayed_there : HasPoint strayed_field 0 3 strayed_told.d.grid
strayed_there = record { d = strayed_told.d; describes = strayed_told.describes; grid = refl; below = omega (arith, sym (ap points_in strayed_told.describes) ∙ sample.four) }

second_answer : (shown two_fields 0 1 one_zero).answer ≡ 0
second_answer = ap point_code sample.second

strays : RefusedByDecode strayed_field 0
strays = omega (arith, sample.refused)

-- A value that is told is not the zero that stood there.
value_written : of_bits binary64 0x4072_3333_3333_3333 ∷ [] ≡ one_zero → ⊥
unfolding of_bits to_bits
value_written same = let bits : ◌≡◌ {A = ℕ} 0x4072_3333_3333_3333 0 = ap (λ (values : List Float). to_bits binary64 (get_or values 0 (fin false 0 (pos 0)))) same in omega arith

abbrev answer_in : Shown → ℕ
answer_in s = s.answer

pub no_impostor_for_point : NoImpostorForPoint
no_impostor_for_point =
    record {
      tells_point_0 = λ f meets same.
          let alike : (shown two_fields 0 1 one_zero).answer ≡ (shown two_fields 0 0 one_zero).answer = ap answer_in (sym (meets two_fields 0 1 one_zero)) ∙ same two_fields 0 1 missing_told.d.grid one_zero missing_there ∙ ap answer_in (meets two_fields 0 0 one_zero) in
          absurd (omega (arith, alike, second_answer, ap answer_in sample.first));
      tells_the_next = λ f meets next.
          let alike : (shown two_fields 0 0 one_zero).answer ≡ (shown two_fields 0 1 one_zero).answer = ap answer_in (sym (meets two_fields 0 0 one_zero) ∙ next two_fields 0 0 one_zero (omega (arith, second_answer))) in
          absurd (omega (arith, alike, second_answer, ap answer_in sample.first));
      tells_nothing = λ f meets same.
          value_written (ap (λ (s : Shown). s.run) (sym sample.first ∙ sym (meets two_fields 0 0 one_zero)) ∙ same two_fields 0 0 one_zero);
      refuses_with_decode = λ f meets refuses.
          let refused = refuses strayed_field 0 0 one_zero strays in
          absurd (omega (arith, refused, ap answer_in (meets strayed_field 0 0 one_zero), sample.told));
      refuses_the_missing = λ f meets refuses.
          let refused = refuses strayed_field 0 1 one_zero strays sample.missing in
          let none : (shown strayed_field 0 1 one_zero).answer ≡ 0 = ap point_code sample.missing in
          absurd (omega (arith, refused, ap answer_in (meets strayed_field 0 1 one_zero), none));
      tells_every_point = λ f meets all.
          let told = all strayed_field 0 3 strayed_told.d.grid one_zero strayed_there (omega arith) in
          absurd (omega (arith, told, ap answer_in (meets strayed_field 0 3 one_zero), sample.strayed));
    }
