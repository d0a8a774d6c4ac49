-- There is no impostor: the rules' file of two fields, and its first field alone, tell each of them from a reader that meets the contracts.
use Prim.Native.Nat.{ℕ}
use mathlib.Core.Path.{◌≡◌, refl, sym, ap, ◌∙◌}
use mathlib.Core.Bool.{false}
use mathlib.Core.List.{List, [], ◌∷◌}
use native.Mathlib.Omega.{arith}
use lib.IntN.{pos}
use lib.ListN.{get_or}
use lib.Ieee.{Float, fin, binary64, add, mul, div, of_int, of_bits, to_bits}
use Rattle.octets.proofs.Cases.{apart}
use Rattle.octets.specs.Numbers.{number_at}
use Rattle.refusals.specs.declared.Refusal.{Refusal}
use Rattle.laws_rows.specs.Rows.{row}
use Rattle.bits.specs.Bits.{bit_at, bits_at}
use Rattle.bits_ones.specs.Ones.{ones_before}
use Rattle.calendar.specs.Calendar.{is_leap, month_length, tomorrow, days_after}
use Rattle.doubles.specs.Doubles.{sum_of, scaled_by}
use Rattle.laws_machine.specs.Machine.{run, run_for}
use Rattle.tiling_sections.specs.Walk.{section_at, starts_after, bitmap_after}
use Rattle.tiling.specs.Tiling.{header_at, message, check, both_counts}
use Rattle.section_1.specs.Identification.{identification_at}
use Rattle.section_3.specs.Section3.{grid_at}
use Rattle.section_4.specs.Product.{product_definition_at}
use Rattle.section_5.specs.Representation.{representation_at}
use Rattle.section_6.specs.Presence.{present_before, presence_at}
use Rattle.section_7.specs.Packing.{data_at}
use Rattle.values_integers.specs.Integers.{are_in_range}
use Rattle.question.specs.Describe.{described_at}
use Rattle.question_decode.specs.Decoding.{outcome, gives}
use Rattle.theorems_demands.specs.Impostors.{Left, Decoder, MeetsDecode, NoImpostor}
use Rattle.theorems_demands.specs.Sample.{two_fields, one_field}
use Rattle.std.specs.Prelude.{Ok, Err}

two_counted : check two_fields ≡ Ok (both_counts 1 2)
unfolding two_fields number_at run run_for section_at starts_after bitmap_after header_at message
two_counted = refl

one_counted : check one_field ≡ Ok (both_counts 1 1)
unfolding one_field number_at run run_for section_at starts_after bitmap_after header_at message
one_counted = refl

-- The first field is 291.2, missing, 274.8, missing, and the second 0.5, missing, 0.7, missing.
abbrev missing : Float
missing = fin false 0 (pos 0)

abbrev first_field : List Float
first_field = of_bits binary64 0x4072_3333_3333_3333 ∷ missing ∷ of_bits binary64 0x4071_2ccc_cccc_cccd ∷ missing ∷ []

abbrev second_field : List Float
second_field = of_bits binary64 0x3fe0_0000_0000_0000 ∷ missing ∷ of_bits binary64 0x3fe6_6666_6666_6666 ∷ missing ∷ []

first_decoded : outcome two_fields 0 0 4 4 ≡ gives 4 first_field (1 ∷ 0 ∷ 1 ∷ 0 ∷ [])
unfolding two_fields number_at run run_for section_at starts_after bitmap_after header_at message identification_at grid_at product_definition_at representation_at presence_at ones_before present_before data_at are_in_range described_at row bit_at bits_at is_leap month_length tomorrow days_after sum_of scaled_by add mul div of_int of_bits
first_decoded = refl

second_decoded : outcome two_fields 1 0 4 4 ≡ gives 4 second_field (1 ∷ 0 ∷ 1 ∷ 0 ∷ [])
unfolding two_fields number_at run run_for section_at starts_after bitmap_after header_at message identification_at grid_at product_definition_at representation_at presence_at ones_before present_before data_at are_in_range described_at row bit_at bits_at is_leap month_length tomorrow days_after sum_of scaled_by add mul div of_int of_bits
second_decoded = refl

-- They differ from one another, and from runs of zeros, in their first value.
abbrev first_bits : List Float → ℕ
first_bits values = to_bits binary64 (get_or values 0 missing)

fields_differ : first_field ≡ second_field → ⊥
unfolding of_bits to_bits
fields_differ same = let bits : ◌≡◌ {A = ℕ} 0x4072_3333_3333_3333 0x3fe0_0000_0000_0000 = ap first_bits same in omega arith

abbrev zeros : List Float
zeros = missing ∷ missing ∷ missing ∷ missing ∷ []

field_is_written : first_field ≡ zeros → ⊥
unfolding of_bits to_bits
field_is_written same = let bits : ◌≡◌ {A = ℕ} 0x4072_3333_3333_3333 0 = ap first_bits same in omega arith

-- What a decoder that meets the contract leaves of runs of zeros.
abbrev unmarked : List ℕ
unmarked = 0 ∷ 0 ∷ 0 ∷ 0 ∷ []

module _ (d : Decoder) (meets : MeetsDecode d) where
  first_left : d two_fields 0 0 zeros unmarked ≡ record { answer = Ok 4; runs = record { values = first_field; presence = 1 ∷ 0 ∷ 1 ∷ 0 ∷ [] } }
  first_left = meets two_fields 0 0 zeros unmarked ∙ rw first_decoded

  second_left : d two_fields 1 0 zeros unmarked ≡ record { answer = Ok 4; runs = record { values = second_field; presence = 1 ∷ 0 ∷ 1 ∷ 0 ∷ [] } }
  second_left = meets two_fields 1 0 zeros unmarked ∙ rw second_decoded

  first_answer : (d two_fields 0 0 zeros unmarked).answer ≡ Ok 4
  first_answer = ap (λ (l : Left). l.answer) first_left

  first_values : (d two_fields 0 0 zeros unmarked).runs.values ≡ first_field
  first_values = ap (λ (l : Left). l.runs.values) first_left

  second_answer : (d two_fields 1 0 zeros unmarked).answer ≡ Ok 4
  second_answer = ap (λ (l : Left). l.answer) second_left

  second_values : (d two_fields 1 0 zeros unmarked).runs.values ≡ second_field
  second_values = ap (λ (l : Left). l.runs.values) second_left

pub no_impostor : NoImpostor
no_impostor =
    record {
      refuses_every_file = λ c meets refuses. let r = refuses two_fields in no_counts (sym two_counted ∙ sym (meets two_fields) ∙ r.1);
      invents_the_count = λ c meets n same. let two : 2 ≡ n = same two_fields 1 2 (meets two_fields ∙ two_counted) in let one : 1 ≡ n = same one_field 1 1 (meets one_field ∙ one_counted) in omega arith;
      returns_one_field = λ d meets same. fields_differ (sym (first_values d meets) ∙ same two_fields two_fields 0 1 0 4 4 zeros unmarked (first_answer d meets) (second_answer d meets) ∙ second_values d meets);
      writes_nothing = λ d meets same. field_is_written (sym (first_values d meets) ∙ same two_fields 0 0 zeros unmarked);
      marks_nothing = λ d meets same. let mark : ◌≡◌ {A = ℕ} 1 0 = ap (λ (marks : List ℕ). get_or marks 0 0) (ap (λ (l : Left). l.runs.presence) (sym (first_left d meets)) ∙ same two_fields 0 0 zeros unmarked) in omega arith;
      repeats_field_0 = λ d meets same. fields_differ (sym (first_values d meets) ∙ sym (same two_fields 1 0 4 zeros unmarked (second_answer d meets)) ∙ second_values d meets);
    }
  where
    no_counts : {m n : ℕ} {r : Refusal} → Ok (both_counts m n) ≡ Err r → ⊥
    no_counts e = apart cc
