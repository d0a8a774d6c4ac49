-- The table of worked examples holds: each row is computed from the definitions.
use Prim.Native.Nat.{ℕ}
use mathlib.Core.Path.{◌≡◌, refl, ap₂, ◌∙◌}
use native.Mathlib.Nat.{zero-mul, one-mul}
use native.Mathlib.Omega.{arith}
use lib.Ieee.{add, mul, div, of_int, of_bits, to_bits}
use Rattle.octets.specs.Numbers.{number_at}
use Rattle.bits.specs.Bits.{bit_at, bits_at}
use Rattle.calendar.specs.Calendar.{is_leap, month_length, tomorrow, days_after}
use Rattle.doubles.specs.Doubles.{value_of}
use Rattle.section_3_positions.specs.Positions.{Away}
use Rattle.section_3_positions.proofs.Nearest.{away_of_lem, away_once}
use Rattle.section_3_positions.proofs.Laws.{position_lies}
use Rattle.section_7.specs.Packing.{values_before, bits_before, are_sound, data_at}
use Rattle.values_integers.specs.Integers.{group_among, stored_at, integer, are_in_range}
use Rattle.bits_ones.specs.Ones.{ones_before}
use Rattle.laws_machine.specs.Machine.{run, run_for}
use Rattle.tiling_sections.specs.Walk.{section_at, starts_after, bitmap_after}
use Rattle.tiling.specs.Tiling.{header_at, message}
use Rattle.section_1.specs.Identification.{identification_at}
use Rattle.section_3.specs.Section3.{grid_at}
use Rattle.section_4.specs.Product.{product_definition_at}
use Rattle.section_5.specs.Representation.{representation_at}
use Rattle.section_6.specs.Presence.{present_before, presence_at}
use Rattle.laws_rows.specs.Rows.{row}
use Rattle.text.specs.Text.{spelt}
use Rattle.question_picture.specs.Picture.{largest_present, pictured}
use Rattle.question.specs.Describe.{described_at}
use Rattle.refusals.specs.declared.Why.TheVariants as Why
use Rattle.refusals.specs.Refusals.{refusal}
use Rattle.theorems_demands.specs.Sample.{strayed_field}
use Rattle.theorems_demands.specs.Examples.{two_by_three, Examples}
use Rattle.std.specs.Prelude.{Err}

-- What is answered of the picture of the field that strays.
strayed : (pictured strayed_field 0 14 ≡ Err (refusal Why.NoRoom 0)) × (pictured strayed_field 0 15 ≡ Err (refusal Why.ValueOutOfRange 199))
unfolding strayed_field number_at run run_for section_at starts_after bitmap_after header_at message identification_at grid_at product_definition_at representation_at presence_at ones_before present_before data_at values_before bits_before are_sound group_among stored_at integer are_in_range described_at bit_at bits_at is_leap month_length tomorrow days_after row spelt largest_present of_bits
strayed = (refl, refl)

pub examples : Examples
unfolding row spelt largest_present number_at bit_at bits_at is_leap month_length tomorrow days_after values_before bits_before group_among stored_at integer value_of add mul div of_int of_bits to_bits
examples =
    record {
      minus_one = refl;
      minus_zero = refl;
      minus_two = refl;
      large_bitmap = refl;
      many_values = refl;
      first_twelve_bits = refl;
      next_twelve_bits = refl;
      second_differences = refl;
      seven_and_a_half = refl;
      a_tenth = refl;
      after_eighty_four_hours = refl;
      first_and_third = refl;
      column1421 = λ g n p columns first last column l.
          let away : Away 1422 43060606 1421 l.east = rw (column, columns, first, last) at l.column in
          l.longitude ∙ rw (first, away_once {m = l.east} (omega arith) away away_of_lem);
      six_points = (
        position_lies two_by_three 0,
        position_lies two_by_three 1,
        position_lies two_by_three 2,
        position_lies two_by_three 3,
        position_lies two_by_three 4,
        position_lies two_by_three 5,
      );
      half_east = λ g n p columns span column l. away_once (omega arith) (rw (column, columns, span) at l.column) away_of_lem;
      half_south = λ g n p rows span row l. away_once (omega arith) (rw (row, rows, span) at l.row) away_of_lem;
      last_on_sheet = λ g columns across down. rw (columns, across, down);
      lines_of_six = refl;
      four_greys = refl;
      room_first = strayed.0;
      range_behind = strayed.1;
      second_row = λ g columns. rw columns (ap₂ (λ (right down : ℕ). record { right = right; down = down }) (zero-mul g.dx) (one-mul g.dy));
    }
