-- Sizes within which the machine's numbers with a sign hold every number of a description.
use Rattle.std.specs.Prelude.{ℕ, ◌≤◌, ◌<◌, Option, Some, None}
use Rattle.section_3_geometry.specs.declared.DegreeGrid.{DegreeGrid}
use Rattle.section_3_geometry.specs.declared.LambertGrid.{LambertGrid}
use Rattle.section_3_geometry.specs.declared.Grid.{Grid}
use Rattle.section_3_geometry.specs.Geometry.{points_of}
use Rattle.section_3_lambert.specs.declared.SheetPlace.{SheetPlace}
use Rattle.section_4.specs.declared.Level.{Level}
use Rattle.section_5.specs.declared.Representation.{Representation}
use Rattle.tiling_sections.specs.declared.Starts.{Starts}
use Rattle.question.specs.declared.Description.{Description}

abbrev pub DegreesHeld : DegreeGrid → Type 0
DegreesHeld g = (g.first.latitude.size ≤ 90000000) × (g.last.latitude.size ≤ 90000000)

abbrev pub LambertHeld : LambertGrid → Type 0
LambertHeld g = (g.first.latitude.size ≤ 90000000) × (g.stated.size ≤ 90000000) × (g.cut1.size ≤ 90000000) × (g.cut2.size ≤ 90000000)

abbrev pub LatitudesHeld : Grid → Type 0
LatitudesHeld (Grid.Degrees g) = DegreesHeld g
LatitudesHeld (Grid.Lambert g) = LambertHeld g

abbrev pub GridHeld : Grid → Type 0
GridHeld g = LatitudesHeld g × (points_of g ≤ 16777216)

abbrev pub SheetHeld : SheetPlace → Type 0
SheetHeld p = (p.right < 9223372036854775808) × (p.down < 9223372036854775808)

-- The size of a level's factor.
abbrev pub factor_size : Option Level → ℕ
factor_size None = 0
factor_size (Some level) = level.factor.size

abbrev pub RepresentationHeld : Representation → Type 0
RepresentationHeld r = (r.e.size ≤ 127) × (r.d.size ≤ 22)

-- A place in the longest file that is read.
pub record StartsHeld (s : Starts) : Type 0 where
  pub one : s.one.0 ≤ 268435456
  pub three : s.three.0 ≤ 268435456
  pub four : s.four.0 ≤ 268435456
  pub five : s.five.0 ≤ 268435456
  pub six : s.six.0 ≤ 268435456
  pub seven : s.seven.0 ≤ 268435456

pub record Held (d : Description) : Type 0 where
  pub of_grid : GridHeld d.grid
  pub of_level : factor_size d.definition.level ≤ 127
  pub of_representation : RepresentationHeld d.representation
  pub of_starts : StartsHeld d.starts
