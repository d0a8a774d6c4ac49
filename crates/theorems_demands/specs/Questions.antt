-- RULES, "The eight questions": the questions that are asked of a file, and what comes of each, by the definitions that the contracts of the
-- public functions cite.
use Rattle.std.specs.Prelude.{ℕ, List, Option, Some, None, Result, Ok, Err, Float}
use Rattle.refusals.specs.declared.Refusal.{Refusal}
use Rattle.refusals.specs.Refusals.{number_of}
use Rattle.tiling.specs.Tiling as Tiling
use Rattle.question.specs.Describe as Describe
use Rattle.question.specs.Judge.{Asks, judge}
use Rattle.question_place.specs.Place as Place
use Rattle.question_decode.specs.Decoding.{answer}
use Rattle.question_point.specs.Point as Point
use Rattle.question_picture.specs.Picture as Picture
use Rattle.tiling.specs.declared.Counts.{Counts}
use Rattle.question.specs.declared.Description.{Description}
use Rattle.section_3_geometry.specs.declared.DegreeGrid.{DegreeGrid}
use Rattle.section_3_geometry.specs.declared.LambertGrid.{LambertGrid}
use Rattle.section_3_lambert.specs.declared.SheetPlace.{SheetPlace}
use Rattle.section_3_geometry.specs.declared.Position.{Position}

-- Check the file; describe field k; place point n of field k, in degrees or on the sheet; decode field k from a start index on, into runs of these two lengths; tell
-- the value of point n of field k; draw field k into a run of so many octets. C has field k described, and point n of it placed and told, into a run of so many
-- numbers.
pub data Question : Type 0 where
  check : Question
  describe : (k : ℕ) → Question
  place : (k n : ℕ) → Question
  sheet : (k n : ℕ) → Question
  decode : (k start values presence : ℕ) → Question
  point : (k n : ℕ) → Question
  picture : (k room : ℕ) → Question
  describe_into : (k room : ℕ) → Question
  place_into : (k n room : ℕ) → Question
  sheet_into : (k n room : ℕ) → Question
  point_into : (k n room : ℕ) → Question

-- What comes of a question: a full answer, or a refusal, which is told by its number and its place.
pub data Verdict : Type 0 where
  answered : Verdict
  refused : (number place : ℕ) → Verdict

abbrev pub refused_by : Refusal → Verdict
refused_by r = refused (number_of r.why) r.place.0

abbrev pub of_checked : Result Counts Refusal → Verdict
of_checked (Ok both) = answered
of_checked (Err r) = refused_by r

abbrev pub of_described : Result Description Refusal → Verdict
of_described (Ok d) = answered
of_described (Err r) = refused_by r

abbrev pub of_placed : Result Position Refusal → Verdict
of_placed (Ok p) = answered
of_placed (Err r) = refused_by r

abbrev pub of_sheet : Result SheetPlace Refusal → Verdict
of_sheet (Ok p) = answered
of_sheet (Err r) = refused_by r

abbrev pub of_degrees : Result DegreeGrid Refusal → Verdict
of_degrees (Ok g) = answered
of_degrees (Err r) = refused_by r

abbrev pub of_lambert : Result LambertGrid Refusal → Verdict
of_lambert (Ok g) = answered
of_lambert (Err r) = refused_by r

abbrev pub of_decoded : Result ℕ Refusal → Verdict
of_decoded (Ok n) = answered
of_decoded (Err r) = refused_by r

abbrev pub of_pointed : Result (Option Float) Refusal → Verdict
of_pointed (Ok (Some v)) = answered
of_pointed (Ok None) = answered
of_pointed (Err r) = refused_by r

abbrev pub of_pictured : Result ℕ Refusal → Verdict
of_pictured (Ok n) = answered
of_pictured (Err r) = refused_by r

abbrev pub verdict : List ℕ → Question → Verdict
verdict file check = of_checked (Tiling.check file)
verdict file (describe k) = of_described (Describe.describe file k)
verdict file (place k n) = of_placed (Place.place file k n)
verdict file (sheet k n) = of_sheet (Place.sheet file k n)
verdict file (decode k start values presence) = of_decoded (answer file k start values presence)
verdict file (point k n) = of_pointed (Point.point file k n)
verdict file (picture k room) = of_pictured (Picture.pictured file k room)
verdict file (describe_into k room) = of_described (judge file k (Asks.Numbers room))
verdict file (place_into k n room) = of_degrees (Place.on_degrees file k n room)
verdict file (sheet_into k n room) = of_lambert (Place.on_lambert file k n room)
verdict file (point_into k n room) = of_pointed (Point.point_into file k n room)
