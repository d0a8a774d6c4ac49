-- RULES, "Section 3": where point n of a Lambert grid lies on the sheet.
use Rattle.std.specs.Prelude.{ℕ, ◌*◌, ◌≤◌}
use Rattle.section_3_geometry.specs.declared.LambertGrid.{LambertGrid}
use Rattle.section_3_geometry.specs.Geometry.{column_of, row_of}
use Rattle.section_3_lambert.specs.declared.SheetPlace.{SheetPlace}

-- Each column lies Dx to the right of the one before it, and each row Dy below the one before it. The first point is where both start.
abbrev pub sheet_of : LambertGrid → ℕ → SheetPlace
sheet_of g n = record { right = column_of g.frame n * g.dx; down = row_of g.frame n * g.dy }

-- What the question where a point lies on the sheet asks of a grid: it has columns, and its lengths are within their limits.
pub record SheetMeasured (g : LambertGrid) : Type 0 where
  pub columns : 1 ≤ g.frame.ni
  pub across : g.dx ≤ 2147483647
  pub down : g.dy ≤ 2147483647
