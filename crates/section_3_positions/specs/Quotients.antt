-- How the code works out where a point lies: by a quotient. That this is what specs/Positions.antt says, and nothing else, is proved (`position_lies`, `lies_once`).
use Rattle.std.specs.Prelude.{ℕ, ◌+◌, ◌-◌, ◌*◌, ◌/◌, cond, leb}
use Rattle.octets.specs.declared.Signed.{Signed}
use Rattle.section_3_geometry.specs.declared.Position.{Position}
use Rattle.section_3_geometry.specs.declared.DegreeGrid.{DegreeGrid}
use Rattle.section_3_geometry.specs.Geometry.{column_of, row_of, south_of, span_east, span_south}
use Rattle.section_3_positions.specs.Positions.{longitude_at, latitude_at}

-- The whole part of a / b + 1/2.
abbrev pub rounded : ℕ → ℕ → ℕ
rounded a b = (2 * a + b) / (2 * b)

-- How far point i of so many lies from the first.
abbrev pub away_of : ℕ → ℕ → ℕ → ℕ
away_of count span i = cond (leb count 1) 0 (rounded (i * span) (count - 1))

abbrev pub longitude_of : DegreeGrid → ℕ → ℕ
longitude_of g i = longitude_at (g.first.longitude + away_of g.frame.ni (span_east g) i)

abbrev pub latitude_of : DegreeGrid → ℕ → Signed
latitude_of g j = latitude_at (south_of g.first.latitude + away_of g.frame.nj (span_south g) j)

-- Where point n lies.
abbrev pub position_of : DegreeGrid → ℕ → Position
position_of g n = record { latitude = latitude_of g (row_of g.frame n); longitude = longitude_of g (column_of g.frame n) }
