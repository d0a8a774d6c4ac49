-- RULES, "Section 3": a field's grid, which is of one of two kinds, and which numbers make a grid in degrees. Points lie in rows, one below the other, and in
-- each row one to the right of the other.
use Rattle.std.specs.Prelude.{ℕ, ◌+◌, ◌-◌, ◌*◌, ◌/◌, ◌%◌, ◌≤◌, ◌≡◌, Bool, true, ◌&&◌, cond, eqb, ltb, leb}
use Rattle.octets.specs.declared.Signed.{Signed}
use Rattle.section_3_geometry.specs.declared.Position.{Position}
use Rattle.section_3_geometry.specs.declared.Frame.{Frame}
use Rattle.section_3_geometry.specs.declared.DegreeGrid.{DegreeGrid}
use Rattle.section_3_geometry.specs.declared.Grid.{Grid}

-- A grid has Ni x Nj points. Point n is in column n mod Ni and row n div Ni.
abbrev pub points_in : Frame → ℕ
points_in f = f.ni * f.nj

abbrev pub column_of : Frame → ℕ → ℕ
column_of f n = n % f.ni

abbrev pub row_of : Frame → ℕ → ℕ
row_of f n = n / f.ni

-- The earth, Ni and Nj are asked of both kinds of grid in the same way, and so are the points. The template tells the kind.
abbrev pub frame_of : Grid → Frame
frame_of (Grid.Degrees g) = g.frame
frame_of (Grid.Lambert g) = g.frame

abbrev pub points_of : Grid → ℕ
points_of g = points_in (frame_of g)

abbrev pub template_of : Grid → ℕ
template_of (Grid.Degrees g) = 0
template_of (Grid.Lambert g) = 30

-- Ni and Nj are from 1 to 65,535, and the points that octets 7-10 tell are Ni x Nj, at most 16,777,216.
abbrev pub is_count : ℕ → Bool
is_count n = leb 1 n && leb n 65535

abbrev pub is_counted : Frame → ℕ → Bool
is_counted f points = is_count f.ni && is_count f.nj && eqb points (points_in f) && leb points 16777216

-- How far south of the north pole a latitude lies, in millionths of a degree.
abbrev pub south_of : Signed → ℕ
south_of latitude = cond latitude.negative (90000000 + latitude.size) (90000000 - latitude.size)

-- Latitudes are from -90,000,000 to 90,000,000, and the first is not below the last; longitudes are from 0 to 359,999,999.
abbrev pub is_latitude : Signed → Bool
is_latitude latitude = leb latitude.size 90000000

abbrev pub is_longitude : ℕ → Bool
is_longitude longitude = leb longitude 359999999

abbrev pub is_position : Position → Bool
is_position p = is_latitude p.latitude && is_longitude p.longitude

abbrev pub is_cornered : DegreeGrid → Bool
is_cornered g = is_position g.first && is_position g.last && leb (south_of g.first.latitude) (south_of g.last.latitude)

-- The span east is last minus first, and 360,000,000 more where last is smaller. The span south is first minus last.
abbrev pub span_east : DegreeGrid → ℕ
span_east g = cond (ltb g.last.longitude g.first.longitude) (g.last.longitude + 360000000 - g.first.longitude) (g.last.longitude - g.first.longitude)

abbrev pub span_south : DegreeGrid → ℕ
span_south g = south_of g.last.latitude - south_of g.first.latitude

-- A span differs from so many steps by at most their number.
abbrev pub is_spanned : ℕ → ℕ → ℕ → Bool
is_spanned steps step span = leb span (steps * step + steps) && leb (steps * step) (span + steps)

abbrev pub is_stepped : DegreeGrid → Bool
is_stepped g = is_spanned (g.frame.ni - 1) g.di (span_east g) && is_spanned (g.frame.nj - 1) g.dj (span_south g)

-- Which grids in degrees are taken.
abbrev pub is_taken : DegreeGrid → ℕ → Bool
is_taken g points = is_counted g.frame points && is_cornered g && is_stepped g

-- What the question where a point lies asks of a grid in degrees: it has columns and rows, and its first and last point are places on the earth in order.
pub record Measured (g : DegreeGrid) : Type 0 where
  pub columns : 1 ≤ g.frame.ni
  pub rows : 1 ≤ g.frame.nj
  pub corners : is_cornered g ≡ true
