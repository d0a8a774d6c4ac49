-- RULES, "Section 3": where point n of a grid lies. A grid's points are counted along its rows, and spread evenly between its first and its last.
use Rattle.std.specs.Prelude.{ℕ, ◌+◌, ◌-◌, ◌*◌, ◌%◌, ◌≤◌, ◌<◌, ◌≡◌, cond, ltb}
use Rattle.octets.specs.declared.Signed.{Signed}
use Rattle.section_3_geometry.specs.declared.Position.{Position}
use Rattle.section_3_geometry.specs.declared.DegreeGrid.{DegreeGrid}
use Rattle.section_3_geometry.specs.Geometry.{column_of, row_of, south_of, span_east, span_south}

-- How far apart two numbers are.
abbrev pub gap : ℕ → ℕ → ℕ
gap m n = (m - n) + (n - m)

-- The whole number nearest to a / b, halves up: none is nearer, and none that is as near is larger. Each gap is taken b times.
pub record Nearest (a b n : ℕ) : Type 0 where
  pub near : (m : ℕ) → gap a (n * b) ≤ gap a (m * b)
  pub up : (m : ℕ) → gap a (m * b) ≡ gap a (n * b) → m ≤ n

-- Of so many points, counted from 0, the last lies a span away from the first. So point i lies i x span / (count - 1) away, as the nearest whole number. A
-- single point is the first.
pub record Away (count span i away : ℕ) : Type 0 where
  pub single : count ≡ 1 → away ≡ 0
  pub spread : 1 < count → Nearest (i * span) (count - 1) away

-- The longitude that lies so far east of 0 degrees, less all full turns.
abbrev pub longitude_at : ℕ → ℕ
longitude_at east = east % 360000000

-- The latitude that lies so far south of the north pole. Past the equator it is below zero.
abbrev pub latitude_at : ℕ → Signed
latitude_at south = record { negative = ltb 90000000 south; size = cond (ltb 90000000 south) (south - 90000000) (90000000 - south) }

-- Where point n lies: so far east of the first point as its column is away, and so far south as its row is.
pub record LiesAt (g : DegreeGrid) (n : ℕ) (p : Position) : Type 0 where
  pub east : ℕ
  pub south : ℕ
  pub column : Away g.frame.ni (span_east g) (column_of g.frame n) east
  pub row : Away g.frame.nj (span_south g) (row_of g.frame n) south
  pub longitude : p.longitude ≡ longitude_at (g.first.longitude + east)
  pub latitude : p.latitude ≡ latitude_at (south_of g.first.latitude + south)
