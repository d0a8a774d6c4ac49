-- RULES, "Section 3": what a reader expects of where the points of a grid lie. `lie_as_expected` (proofs/Laws.antt) proves it of every grid that is taken.
use Rattle.std.specs.Prelude.{ℕ, ◌-◌, ◌*◌, ◌≤◌, ◌<◌, ◌≡◌, true, ◌≤ℤ◌}
use Rattle.octets.specs.Numbers.{whole}
use Rattle.section_3_geometry.specs.declared.Position.{Position}
use Rattle.section_3_geometry.specs.declared.DegreeGrid.{DegreeGrid}
use Rattle.section_3_geometry.specs.Geometry.{column_of, row_of, points_in, is_position, span_east, span_south}
use Rattle.section_3_positions.specs.Positions.{gap, LiesAt}

pub record AsExpected (g : DegreeGrid) : Type 0 where
  -- The first column and row have the first longitude and latitude, and the last ones the last, exactly.
  pub first_column : {n : ℕ} {p : Position} → LiesAt g n p → column_of g.frame n ≡ 0 → p.longitude ≡ g.first.longitude
  pub last_column : {n : ℕ} {p : Position} → LiesAt g n p → column_of g.frame n ≡ g.frame.ni - 1 → p.longitude ≡ g.last.longitude
  pub first_row : {n : ℕ} {p : Position} → LiesAt g n p → row_of g.frame n ≡ 0 → whole p.latitude ≡ whole g.first.latitude
  pub last_row : {n : ℕ} {p : Position} → LiesAt g n p → row_of g.frame n ≡ g.frame.nj - 1 → whole p.latitude ≡ whole g.last.latitude
  -- Each distance is within half a millionth of a degree of the exact one. Both are taken Ni - 1 times, or Nj - 1 times.
  pub near_column : {n : ℕ} {p : Position} (l : LiesAt g n p) → 2 * gap (column_of g.frame n * span_east g) (l.east * (g.frame.ni - 1)) ≤ g.frame.ni - 1
  pub near_row : {n : ℕ} {p : Position} (l : LiesAt g n p) → 2 * gap (row_of g.frame n * span_south g) (l.south * (g.frame.nj - 1)) ≤ g.frame.nj - 1
  -- Who goes east, or south, never steps back.
  pub eastward : {m n : ℕ} {p q : Position} (l : LiesAt g m p) (k : LiesAt g n q) → column_of g.frame m ≤ column_of g.frame n → l.east ≤ k.east
  pub southward : {m n : ℕ} {p q : Position} → LiesAt g m p → LiesAt g n q → row_of g.frame m ≤ row_of g.frame n → n < points_in g.frame → whole q.latitude ≤ℤ whole p.latitude
  -- No point of the grid lies past the last one, neither east nor south, and each is a place on the earth.
  pub not_past_east : {n : ℕ} {p : Position} (l : LiesAt g n p) → l.east ≤ span_east g
  pub not_past_south : {n : ℕ} {p : Position} → LiesAt g n p → n < points_in g.frame → whole g.last.latitude ≤ℤ whole p.latitude
  pub on_earth : {n : ℕ} {p : Position} → LiesAt g n p → n < points_in g.frame → is_position p ≡ true
