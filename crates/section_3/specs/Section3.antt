-- RULES, "Section 3": the octets of a section with a grid of template 3.0, in degrees, or of template 3.30, a Lambert grid.
use Rattle.std.specs.Prelude.{ℕ, Bool, not, ◌&&◌, cond, List, eqb, Option, Some, None}
use Rattle.section.specs.Sections.{octet, held, held_signed, length_at}
use Rattle.section_3_geometry.specs.declared.Position.{Position}
use Rattle.section_3_geometry.specs.declared.Frame.{Frame}
use Rattle.section_3_geometry.specs.declared.DegreeGrid.{DegreeGrid}
use Rattle.section_3_geometry.specs.declared.LambertGrid.{LambertGrid}
use Rattle.section_3_geometry.specs.declared.Grid.{Grid}
use Rattle.section_3_geometry.specs.Geometry.{is_taken}
use Rattle.section_3_lambert.specs.Lambert.{is_lambert_grid}

-- Four octets, all ones.
abbrev pub all_ones : ℕ
all_ones = 0xffff_ffff

-- The length and the template, octets 13-14, are as told; octets 6, 11 and 12 are zero.
abbrev pub is_of : List ℕ → ℕ → (length template : ℕ) → Bool
is_of file s length template = eqb (length_at file s) length && eqb (octet file s 6) 0 && eqb (octet file s 11) 0 && eqb (octet file s 12) 0 && eqb (held file s 13 14) template

-- The earth's radius. Earth code 1, in octet 15: octet 16 is zero and octets 17-20 hold the radius in metres, which is not 0 and not all ones.
-- Earth code 6: 6,371,229 m, and octets 16-20 are not judged.
abbrev pub stated_radius : List ℕ → ℕ → Option ℕ
stated_radius file s = cond (eqb (octet file s 16) 0 && not (eqb (held file s 17 20) 0) && not (eqb (held file s 17 20) all_ones)) (Some (held file s 17 20)) None

abbrev pub radius_at : List ℕ → ℕ → Option ℕ
radius_at file s = cond (eqb (octet file s 15) 1) (stated_radius file s) (cond (eqb (octet file s 15) 6) (Some 6371229) None)

-- What both templates have in the same octets: the earth, Ni and Nj.
abbrev pub frame_at : List ℕ → ℕ → ℕ → Frame
frame_at file s radius = record { earth = octet file s 15; radius = radius; ni = held file s 31 34; nj = held file s 35 38 }

-- Template 3.0. Angles are in millionths of a degree: octets 39-42 zero, 43-46 all ones. Di and Dj are given (octet 55 is 0x30), and the points are scanned
-- from west to east in rows that go from north to south (octet 72 is zero).
abbrev pub is_scanned : List ℕ → ℕ → Bool
is_scanned file s = eqb (held file s 39 42) 0 && eqb (held file s 43 46) all_ones && eqb (octet file s 55) 0x30 && eqb (octet file s 72) 0

-- Its numbers.
abbrev pub first_point_at : List ℕ → ℕ → Position
first_point_at file s = record { latitude = held_signed file s 47 50; longitude = held file s 51 54 }

abbrev pub last_point_at : List ℕ → ℕ → Position
last_point_at file s = record { latitude = held_signed file s 56 59; longitude = held file s 60 63 }

abbrev pub degree_numbers_at : List ℕ → ℕ → ℕ → DegreeGrid
degree_numbers_at file s radius = record { frame = frame_at file s radius; first = first_point_at file s; last = last_point_at file s; di = held file s 64 67; dj = held file s 68 71 }

abbrev pub degrees_by : List ℕ → ℕ → Option ℕ → Option Grid
degrees_by file s (Some radius) = cond (is_taken (degree_numbers_at file s radius) (held file s 7 10)) (Some (Grid.Degrees (degree_numbers_at file s radius))) None
degrees_by file s None = None

abbrev pub degrees_at : List ℕ → ℕ → Option Grid
degrees_at file s = cond (is_scanned file s) (degrees_by file s (radius_at file s)) None

-- Template 3.30. Winds are told along the rows and columns of the grid (octet 47 is 0x08), the north pole is on the sheet (octet 64 is zero), and the points are
-- scanned to the right in rows that go downward (octet 65 is zero).
abbrev pub is_projected : List ℕ → ℕ → Bool
is_projected file s = eqb (octet file s 47) 0x08 && eqb (octet file s 64) 0 && eqb (octet file s 65) 0

-- Its numbers. Octets 74-81 are not judged.
abbrev pub first_on_sheet_at : List ℕ → ℕ → Position
first_on_sheet_at file s = record { latitude = held_signed file s 39 42; longitude = held file s 43 46 }

abbrev pub lambert_numbers_at : List ℕ → ℕ → ℕ → LambertGrid
lambert_numbers_at file s radius =
    record {
      frame = frame_at file s radius;
      first = first_on_sheet_at file s;
      stated = held_signed file s 48 51;
      upright = held file s 52 55;
      dx = held file s 56 59;
      dy = held file s 60 63;
      cut1 = held_signed file s 66 69;
      cut2 = held_signed file s 70 73;
    }

abbrev pub lambert_by : List ℕ → ℕ → Option ℕ → Option Grid
lambert_by file s (Some radius) = cond (is_lambert_grid (lambert_numbers_at file s radius) (held file s 7 10)) (Some (Grid.Lambert (lambert_numbers_at file s radius))) None
lambert_by file s None = None

abbrev pub lambert_at : List ℕ → ℕ → Option Grid
lambert_at file s = cond (is_projected file s) (lambert_by file s (radius_at file s)) None

-- The grid of the section 3 at s, or that it is not taken: template 3.0 has 72 octets, and template 3.30 has 81.
unfoldable pub grid_at : List ℕ → ℕ → Option Grid
grid_at file s = cond (is_of file s 72 0) (degrees_at file s) (cond (is_of file s 81 30) (lambert_at file s) None)
