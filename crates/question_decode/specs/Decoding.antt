-- RULES, "From X to a double": the question decode. Integers and presence come first, and the doubles are made from them.
use Rattle.std.specs.Prelude.{ℕ, ◌≡◌, List, nat_abs, length, Float, Result, Ok, Err}
use Rattle.laws_rows.specs.Rows.{row, laid}
use Rattle.refusals.specs.declared.Refusal.{Refusal}
use Rattle.doubles.specs.declared.Packing.{Packing}
use Rattle.doubles.specs.Doubles.{packing_of}
use Rattle.section_3_geometry.specs.Geometry.{points_of}
use Rattle.section_5.specs.declared.Representation.{Representation}
use Rattle.section_6.specs.Presence.{present_at, present_before}
use Rattle.values_points.specs.Points.{double_at}
use Rattle.question.specs.declared.Description.{Description}
use Rattle.question.specs.Judge.{Asks, integer_of, judge}

-- The packing record by the numbers of section 5.
abbrev pub packing_by : Representation → Packing
packing_by r = packing_of r.r r.e r.d

module _ (file : List ℕ) (d : Description) where
  -- Is point i present? And how many are before it: that many integers are packed before its own.
  abbrev pub present_of : ℕ → ℕ
  present_of i = present_at file d.presence (points_of d.grid) i

  abbrev pub rank_of : ℕ → ℕ
  rank_of i = present_before file d.presence (points_of d.grid) i

  -- The double of point i. An integer that is in its range is its own size.
  abbrev pub double_of : ℕ → Float
  double_of i = double_at (packing_by d.representation) (λ m. nat_abs (integer_of file d m)) present_of rank_of i

  -- What decode gives for all points, where no integer is out of its range.
  abbrev pub doubles_of : List Float
  doubles_of = row double_of (points_of d.grid)

  abbrev pub marks_of : List ℕ
  marks_of = row present_of (points_of d.grid)

-- Two runs that have an element for each point of the field.
abbrev pub Stretch : Description → List Float → List ℕ → Type 0
Stretch d values presence = (length values ≡ points_of d.grid) × (length presence ≡ points_of d.grid)

-- What comes of decode: the point count, with a double and a presence for each point, or a refusal.
pub data Outcome : Type 0 where
  gives : ℕ → List Float → List ℕ → Outcome
  refuses : Refusal → Outcome

abbrev pub outcome_by : List ℕ → Result Description Refusal → Outcome
outcome_by file (Ok d) = gives (points_of d.grid) (doubles_of file d) (marks_of file d)
outcome_by file (Err r) = refuses r

-- The outcome for field k, with runs of these lengths.
abbrev pub outcome : List ℕ → ℕ → ℕ → ℕ → ℕ → Outcome
outcome file k start values presence = outcome_by file (judge file k (Asks.Values start values presence))

-- The answer.
abbrev pub answer_of : Outcome → Result ℕ Refusal
answer_of (gives points doubles marks) = Ok points
answer_of (refuses r) = Err r

-- What the whole runs hold: the field's stretch from the start index on, and all else as it was.
abbrev pub values_after : ℕ → List Float → Outcome → List Float
values_after start values (gives points doubles marks) = laid values start doubles
values_after start values (refuses r) = values

abbrev pub presence_after : ℕ → List ℕ → Outcome → List ℕ
presence_after start presence (gives points doubles marks) = laid presence start marks
presence_after start presence (refuses r) = presence

-- The answer of a call, by the lengths of its two runs.
abbrev pub answer : List ℕ → ℕ → ℕ → ℕ → ℕ → Result ℕ Refusal
answer file k start values presence = answer_of (outcome file k start values presence)

-- What its two runs hold afterwards, by what they held before.
module _ (file : List ℕ) (k start : ℕ) (values : List Float) (presence : List ℕ) where
  abbrev outcome_to : Outcome
  outcome_to = outcome file k start (length values) (length presence)

  abbrev pub values_left : List Float
  values_left = values_after start values outcome_to

  abbrev pub presence_left : List ℕ
  presence_left = presence_after start presence outcome_to
