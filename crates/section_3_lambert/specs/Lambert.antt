-- RULES, "Section 3": which numbers make a Lambert grid. The earth is drawn on a cone, and the cone is rolled out to a sheet.
use Rattle.std.specs.Prelude.{ℕ, Bool, ◌&&◌, leb}
use Rattle.section_3_geometry.specs.declared.LambertGrid.{LambertGrid}
use Rattle.section_3_geometry.specs.Geometry.{is_counted, is_latitude, is_longitude, is_position}

-- The latitude of the stated lengths and the two cutting latitudes are latitudes, and the upright meridian is a longitude.
abbrev pub is_coned : LambertGrid → Bool
is_coned g = is_latitude g.stated && is_longitude g.upright && is_latitude g.cut1 && is_latitude g.cut2

-- Dx and Dy are from 1 to 2,147,483,647 thousandths of a metre.
abbrev pub is_length : ℕ → Bool
is_length length = leb 1 length && leb length 2147483647

abbrev pub is_spaced : LambertGrid → Bool
is_spaced g = is_length g.dx && is_length g.dy

-- Which Lambert grids are taken. The limits on the points and on the first point are those of a grid in degrees.
abbrev pub is_lambert_grid : LambertGrid → ℕ → Bool
is_lambert_grid g points = is_counted g.frame points && is_position g.first && is_coned g && is_spaced g
