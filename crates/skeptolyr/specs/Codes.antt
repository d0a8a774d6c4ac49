-- RULES, "What C is given": the one number that answers C. The counts of check share it, 32 bits each, messages on top; the top bit
-- says that it is a refusal.
use Rattle.std.specs.Prelude.{ℕ, ◌+◌, ◌*◌, ◌^◌, false, List, [], ◌∷◌, ℤ, pos, Float, length, Option, Some, None, Result, Ok, Err}
use Rattle.std.specs.Float.{fin}
use Rattle.laws_rows.specs.Rows.{laid}
use Rattle.refusals.specs.declared.Refusal.{Refusal}
use Rattle.refusals.specs.Refusals.{code_of}
use Rattle.section_3_positions.specs.Quotients.{position_of}
use Rattle.section_3_lambert.specs.Sheet.{sheet_of}
use Rattle.question.specs.Judge.{Asks, judge}
use Rattle.question_place.specs.Place.{on_degrees, on_lambert}
use Rattle.question_numbers.specs.Numbers.{position_numbers, sheet_numbers, numbers_of}
use Rattle.tiling.specs.declared.Counts.{Counts}
use Rattle.question.specs.declared.Description.{Description}
use Rattle.section_3_geometry.specs.declared.DegreeGrid.{DegreeGrid}
use Rattle.section_3_geometry.specs.declared.LambertGrid.{LambertGrid}

abbrev pub check_code : Result Counts Refusal → ℕ
check_code (Ok both) = both.messages * 2 ^ 32 + both.fields
check_code (Err r) = code_of r

-- Decode answers with the field's point count.
abbrev pub decode_code : Result ℕ Refusal → ℕ
decode_code (Ok points) = points
decode_code (Err r) = code_of r

-- Point answers with 1, or with 0 where the point is missing. The value stands in the run's first element then, or +0, as decode has it; all else stays as it was.
abbrev pub point_code : Result (Option Float) Refusal → ℕ
point_code (Ok (Some v)) = 1
point_code (Ok None) = 0
point_code (Err r) = code_of r

abbrev pub point_left : List Float → Result (Option Float) Refusal → List Float
point_left run (Ok (Some v)) = laid run 0 (v ∷ [])
point_left run (Ok None) = laid run 0 (fin false 0 (pos 0) ∷ [])
point_left run (Err r) = run

-- Picture answers with the picture's length.
abbrev pub picture_code : Result ℕ Refusal → ℕ
picture_code (Ok n) = n
picture_code (Err r) = code_of r

-- Describe, place and sheet are answered in numbers, or refused.
pub data Answer : Type 0 where
  numbers : List ℤ → Answer
  refused : Refusal → Answer

-- The numbers are put at the start of a run, and the answer is how many they are. The rest of the run stays as it was, and all of it where the question is
-- refused.
abbrev pub numbers_code : Answer → ℕ
numbers_code (numbers told) = length told
numbers_code (refused r) = code_of r

abbrev pub numbers_left : List ℤ → Answer → List ℤ
numbers_left run (numbers told) = laid run 0 told
numbers_left run (refused r) = run

-- What is answered: the numbers of field k's description; the latitude and the longitude of its point n; how far that point lies to the right and down on the sheet.
abbrev pub described_as : Result Description Refusal → Answer
described_as (Ok d) = numbers (numbers_of d)
described_as (Err r) = refused r

abbrev pub placed_as : ℕ → Result DegreeGrid Refusal → Answer
placed_as n (Ok g) = numbers (position_numbers (position_of g n))
placed_as n (Err r) = refused r

abbrev pub sheet_as : ℕ → Result LambertGrid Refusal → Answer
sheet_as n (Ok g) = numbers (sheet_numbers (sheet_of g n))
sheet_as n (Err r) = refused r

-- The answers to the three questions, where this run is lent for the numbers.
abbrev pub described_for : List ℕ → ℕ → List ℤ → Answer
described_for file k run = described_as (judge file k (Asks.Numbers (length run)))

abbrev pub placed_for : List ℕ → ℕ → ℕ → List ℤ → Answer
placed_for file k n run = placed_as n (on_degrees file k n (length run))

abbrev pub sheet_for : List ℕ → ℕ → ℕ → List ℤ → Answer
sheet_for file k n run = sheet_as n (on_lambert file k n (length run))
