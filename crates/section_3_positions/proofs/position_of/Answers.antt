-- `section_3_positions::position_of` meets its contract: each distance is the one that the definition works out, since there is one alone, and all sums fit.
use mathlib.Core.Path.{◌≡◌}
use Prim.Native.Nat.{◌%◌, ◌/◌}
use native.Mathlib.Nat.{mod-le, div-le_self}
use native.Mathlib.Omega.{arith}
use Rattle.section_3_geometry.specs.Geometry.{span_east, span_south}
use Rattle.section_3_geometry.proofs.Tests.{cornered, south_bound, span_east_bound, span_south_bound}
use Rattle.section_3_positions.specs.Quotients.{away_of}
use Rattle.section_3_positions.proofs.Nearest.{away_of_lem, away_once, away_small}
use Rattle.section_3_positions.proofs.position_of.Goals.{After-away-east, After-away-south}
use Rattle.section_3_positions.proofs.position_of.Goals as goal

-- The distances to the east and to the south.
east_is : (c : After-away-east) → let args = c.args in c.away-east.result ≡ away_of args.grid.frame.ni (span_east args.grid) (args.n % args.grid.frame.ni)
east_is c = away_once c.requires.columns (rw c.span_east.ensures at c.away-east.ensures) away_of_lem

south_is : (c : After-away-south) → let args = c.args in c.away-south.result ≡ away_of args.grid.frame.nj (span_south args.grid) (args.n / args.grid.frame.ni)
south_is c = away_once c.requires.rows (rw c.span_south.ensures at c.away-south.ensures) away_of_lem

pub overflow_add-longitude : goal.overflow_add-longitude
overflow_add-longitude c =
    let short = span_east_bound c.args.grid (cornered c.args.grid c.requires.corners) in
    omega (arith, away_small c.requires.columns (omega arith) (omega (arith, c.span_east.ensures, short)) (omega (arith, mod-le c.args.n c.args.grid.frame.ni)) c.away-east.ensures)

pub overflow_add-south_of : goal.overflow_add-south_of
overflow_add-south_of c =
    let corners = cornered c.args.grid c.requires.corners in
    let short = span_south_bound c.args.grid corners in
    let south = away_small c.requires.rows (omega arith) (omega (arith, c.span_south.ensures, short)) (omega (arith, div-le_self c.args.n c.args.grid.frame.ni)) c.away-south.ensures in
    omega (arith, c.south_of.ensures, south_bound c.args.grid.first.latitude corners.first.latitude, south)

pub returns : goal.returns
returns c =
    rw (c.latitude_at-latitude.ensures, c.south_of.ensures, south_is (goal.at.returns c).After-away-south, east_is (goal.at.returns c).After-away-east)
