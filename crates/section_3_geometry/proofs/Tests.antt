-- What each test of a grid tells of its numbers, and how large the numbers are that the tests reckon with.
use mathlib.Core.Path.{◌≡◌}
use mathlib.Core.Bool.{true}
use Prim.Native.Nat.{ℕ, ◌*◌, ◌≤◌}
use native.Mathlib.Omega.{arith}
use Rattle.octets.specs.declared.Signed.{Signed}
use Rattle.section_3_geometry.specs.declared.Position.{Position}
use Rattle.section_3_geometry.specs.declared.Frame.{Frame}
use Rattle.section_3_geometry.specs.declared.DegreeGrid.{DegreeGrid}
use Rattle.section_3_geometry.specs.Geometry.{is_counted, is_position, is_cornered, south_of, span_east, span_south}

-- What is known of a grid whose points are counted, of a position, and of a grid whose corners are positions in order.
pub record Counted (f : Frame) (points : ℕ) : Type 0 where
  pub columns1 : 1 ≤ f.ni
  pub columns65535 : f.ni ≤ 65535
  pub rows1 : 1 ≤ f.nj
  pub rows65535 : f.nj ≤ 65535
  pub all : points ≡ f.ni * f.nj
  pub most : points ≤ 16777216

pub record Placed (p : Position) : Type 0 where
  pub latitude : p.latitude.size ≤ 90000000
  pub longitude : p.longitude ≤ 359999999

pub record Cornered (g : DegreeGrid) : Type 0 where
  pub first : Placed g.first
  pub last : Placed g.last
  pub southward : south_of g.first.latitude ≤ south_of g.last.latitude

-- Each test tells so.
pub counted : (f : Frame) (points : ℕ) → is_counted f points ≡ true → Counted f points
counted f points e = grind arith

pub placed : (p : Position) → is_position p ≡ true → Placed p
placed p e = grind arith

pub cornered : (g : DegreeGrid) → is_cornered g ≡ true → Cornered g
cornered g e = grind arith

-- A latitude lies at most half a turn south of the north pole.
pub south_bound : (latitude : Signed) → latitude.size ≤ 90000000 → south_of latitude ≤ 180000000
south_bound latitude h = grind arith

-- So the spans of a grid whose corners are places in order are below a full turn, and below half a one.
pub span_east_bound : (g : DegreeGrid) → Cornered g → span_east g ≤ 359999999
span_east_bound g corners = grind arith

pub span_south_bound : (g : DegreeGrid) → Cornered g → span_south g ≤ 180000000
span_south_bound g corners = omega (arith, south_bound g.last.latitude corners.last.latitude)
