-- RULES, "Section 3" and "Refusals by number": the questions where a point of a field lies, in degrees and on the sheet, and what comes behind the refusals of describe.
use Rattle.std.specs.Prelude.{ℕ, cond, List, leb, ltb, Result, Ok, Err, ⊤}
use Rattle.refusals.specs.declared.Why.TheVariants as Why
use Rattle.refusals.specs.Refusals.{refusal}
use Rattle.section_3_geometry.specs.declared.DegreeGrid.{DegreeGrid}
use Rattle.section_3_geometry.specs.declared.LambertGrid.{LambertGrid}
use Rattle.section_3_geometry.specs.declared.Grid.{Grid}
use Rattle.section_3_geometry.specs.Geometry.{points_of}
use Rattle.section_3_positions.specs.Quotients.{position_of}
use Rattle.section_3_lambert.specs.Sheet.{sheet_of}
use Rattle.question.specs.Describe.{describe}
use Rattle.refusals.specs.declared.Refusal.{Refusal}
use Rattle.question.specs.declared.Description.{Description}
use Rattle.section_3_lambert.specs.declared.SheetPlace.{SheetPlace}
use Rattle.section_3_geometry.specs.declared.Position.{Position}

-- A place is told in two numbers.
abbrev pub place_length : ℕ
place_length = 2

-- A point is asked, of which so many numbers tell, for a run of this length: 17, where n is not below the point count, and 15 behind it.
abbrev pub point_asked : (n needed room : ℕ) → Grid → Result ⊤ Refusal
point_asked n needed room g = cond (leb (points_of g) n) (Err (refusal Why.NoSuchPoint 0)) (cond (ltb room needed) (Err (refusal Why.NoRoom 0)) (Ok tt))

-- Degrees are asked: 20 before them, where the grid is a Lambert grid.
abbrev pub degrees_if : DegreeGrid → Result ⊤ Refusal → Result DegreeGrid Refusal
degrees_if g (Ok tt) = Ok g
degrees_if g (Err r) = Err r

abbrev pub degrees_asked : ℕ → ℕ → Grid → Result DegreeGrid Refusal
degrees_asked n room (Grid.Degrees g) = degrees_if g (point_asked n place_length room (Grid.Degrees g))
degrees_asked n room (Grid.Lambert g) = Err (refusal Why.OtherGrid 0)

abbrev pub degrees_of : ℕ → ℕ → Result Description Refusal → Result DegreeGrid Refusal
degrees_of n room (Ok d) = degrees_asked n room d.grid
degrees_of n room (Err r) = Err r

abbrev pub on_degrees : List ℕ → ℕ → ℕ → ℕ → Result DegreeGrid Refusal
on_degrees file k n room = degrees_of n room (describe file k)

-- A place on the sheet is asked: 20 before them, where the grid is in degrees.
abbrev pub lambert_if : LambertGrid → Result ⊤ Refusal → Result LambertGrid Refusal
lambert_if g (Ok tt) = Ok g
lambert_if g (Err r) = Err r

abbrev pub lambert_asked : ℕ → ℕ → Grid → Result LambertGrid Refusal
lambert_asked n room (Grid.Degrees g) = Err (refusal Why.OtherGrid 0)
lambert_asked n room (Grid.Lambert g) = lambert_if g (point_asked n place_length room (Grid.Lambert g))

abbrev pub lambert_of : ℕ → ℕ → Result Description Refusal → Result LambertGrid Refusal
lambert_of n room (Ok d) = lambert_asked n room d.grid
lambert_of n room (Err r) = Err r

abbrev pub on_lambert : List ℕ → ℕ → ℕ → ℕ → Result LambertGrid Refusal
on_lambert file k n room = lambert_of n room (describe file k)

-- The question place, and the question sheet. An answer that is handed back has its own room.
abbrev pub placed_by : ℕ → Result DegreeGrid Refusal → Result Position Refusal
placed_by n (Ok g) = Ok (position_of g n)
placed_by n (Err r) = Err r

abbrev pub place : List ℕ → ℕ → ℕ → Result Position Refusal
place file k n = placed_by n (on_degrees file k n place_length)

abbrev pub sheet_by : ℕ → Result LambertGrid Refusal → Result SheetPlace Refusal
sheet_by n (Ok g) = Ok (sheet_of g n)
sheet_by n (Err r) = Err r

abbrev pub sheet : List ℕ → ℕ → ℕ → Result SheetPlace Refusal
sheet file k n = sheet_by n (on_lambert file k n place_length)
