-- RULES, "Refusals by number": what comes behind the refusals of describe, by what is asked of the field.
use Rattle.std.specs.Prelude.{ℕ, ◌+◌, ◌≡◌, Bool, ◌&&◌, cond, List, leb, ltb, ℤ, Result, Ok, Err}
use Rattle.refusals.specs.declared.Why.TheVariants as Why
use Rattle.section_3_geometry.specs.declared.Grid.{Grid}
use Rattle.section_3_geometry.specs.Geometry.{points_of}
use Rattle.values_integers.specs.Integers.{integer_at, are_in_range}
use Rattle.question.specs.declared.Description.{Description}
use Rattle.question.specs.Describe.{refused_at, describe}
use Rattle.refusals.specs.declared.Refusal.{Refusal}

-- What is asked of a field that is described: the numbers of its description, for which a run of this length is lent; or all its values, for which two runs of
-- these lengths are lent from a start index on.
pub data Asks : Type 0 where
  Numbers : (room : ℕ) → Asks
  Values : (start values presence : ℕ) → Asks

-- A description that describe has given of this file.
abbrev pub Known : List ℕ → Description → Type 0
Known file d = (k : ℕ) × (describe file k ≡ Ok d)

-- The packed integer X numbered m of a field.
abbrev pub integer_of : List ℕ → Description → ℕ → ℤ
integer_of file d m = integer_at file d.starts.seven.0 d.representation m

-- Refusal 16: one of the N integers is out of its range.
abbrev pub is_decodable : List ℕ → Description → Bool
is_decodable file d = are_in_range (integer_of file d) d.representation.n

-- Refusal 15: the points do not fit from the start index on into both runs.
abbrev pub has_room : ℕ → ℕ → ℕ → ℕ → Bool
has_room start points values presence = leb (start + points) values && leb (start + points) presence

-- All values are asked: 15, and 16 behind it.
abbrev pub values_asked : List ℕ → ℕ → ℕ → ℕ → Description → Result Description Refusal
values_asked file start values presence d =
    cond (has_room start (points_of d.grid) values presence)
    (cond (is_decodable file d) (Ok d) (refused_at Why.ValueOutOfRange d.starts.seven.0))
    (refused_at Why.NoRoom 0)

-- How many numbers tell a description to C: those that a Lambert grid alone has come behind the others.
abbrev pub description_length : Grid → ℕ
description_length (Grid.Degrees g) = 53
description_length (Grid.Lambert g) = 60

-- These numbers are asked, for a run of this length: 15, where it is too short for them.
abbrev pub numbers_asked : ℕ → Description → Result Description Refusal
numbers_asked room d = cond (ltb room (description_length d.grid)) (refused_at Why.NoRoom 0) (Ok d)

-- What is judged beside the description, by what is asked.
abbrev pub asked : List ℕ → Asks → Description → Result Description Refusal
asked file (Asks.Numbers room) d = numbers_asked room d
asked file (Asks.Values start values presence) d = values_asked file start values presence d

-- The refusals of describe come first.
abbrev pub asked_of : List ℕ → Asks → Result Description Refusal → Result Description Refusal
asked_of file asks (Ok d) = asked file asks d
asked_of file asks (Err r) = Err r

abbrev pub judge : List ℕ → ℕ → Asks → Result Description Refusal
judge file k asks = asked_of file asks (describe file k)
