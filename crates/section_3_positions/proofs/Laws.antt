-- The laws of places: a point of a grid lies at one place, which the code works out, and the places are as a reader expects.
use mathlib.Core.Path.{◌≡◌, refl, sym, ap, ◌∙◌}
use mathlib.Core.Bool.{true}
use Prim.Native.Nat.{ℕ, ◌+◌, ◌-◌, ◌*◌, ◌≤◌, ◌<◌}
use native.Mathlib.Nat.{mod-lt, mul_comm, div-lt_iff_lt-mul}
use native.Mathlib.Omega.{arith}
use borrow.Author.Tests.{ltb-true, ltb-false, leb-true, le-leb}
use lib.Dec.{ltb}
use lib.IntN.{ℤ, pos, ◌-ℤ◌}
use Rattle.octets.proofs.Cases.{split, both}
use Rattle.octets.proofs.Whole.{minus_less, minus_more, minus_sum}
use Rattle.octets.specs.declared.Signed.{Signed}
use Rattle.octets.specs.Numbers.{whole}
use Rattle.section_3_geometry.specs.declared.Position.{Position}
use Rattle.section_3_geometry.specs.declared.DegreeGrid.{DegreeGrid}
use Rattle.section_3_geometry.specs.Geometry.{column_of, row_of, Measured, points_in, is_taken, south_of, span_east, span_south}
use Rattle.section_3_geometry.proofs.Tests.{Cornered, cornered, south_bound}
use Rattle.section_3_geometry.proofs.Laws.{taken_measured, south_is, south_orders}
use Rattle.section_3_positions.specs.Positions.{longitude_at, latitude_at, LiesAt}
use Rattle.section_3_positions.specs.Expected.{AsExpected}
use Rattle.section_3_positions.specs.Quotients.{away_of, position_of}
use Rattle.section_3_positions.proofs.Nearest.{away_of_lem, away_once, first_away, last_away, away_orders, away_inside, away_near}

-- The code's position is where the point lies, and the point lies nowhere else.
pub position_lies : (g : DegreeGrid) (n : ℕ) → LiesAt g n (position_of g n)
position_lies g n =
    record {
      east = away_of g.frame.ni (span_east g) (column_of g.frame n);
      south = away_of g.frame.nj (span_south g) (row_of g.frame n);
      column = away_of_lem;
      row = away_of_lem;
      longitude = refl;
      latitude = refl;
    }

abbrev position : Signed → ℕ → Position
position latitude longitude = record { latitude = latitude; longitude = longitude }

pub lies_once : (g : DegreeGrid) (n : ℕ) {p q : Position} → 1 ≤ g.frame.ni → 1 ≤ g.frame.nj → LiesAt g n p → LiesAt g n q → p ≡ q
lies_once g n {p} {q} columns rows k l =
    let longitude = k.longitude ∙ ap (λ (east : ℕ). longitude_at (g.first.longitude + east)) (away_once columns k.column l.column) ∙ sym l.longitude in
    let latitude = k.latitude ∙ ap (λ (south : ℕ). latitude_at (south_of g.first.latitude + south)) (away_once rows k.row l.row) ∙ sym l.latitude in
    ap (λ (a : Signed). position a p.longitude) latitude ∙ ap (position q.latitude) longitude

-- The latitude so far south of the north pole is 90,000,000 less so much.
latitude_at_is : (south : ℕ) → whole (latitude_at south) ≡ pos 90000000 -ℤ pos south
latitude_at_is south =
    split (ltb 90000000 south)
    (λ e.
    let past : 90000000 + (south - 90000000) ≡ south = omega (arith, ltb-true 90000000 south e) in
    rw e (sym (minus_more 90000000 (south - 90000000)) ∙ ap (λ (n : ℕ). pos 90000000 -ℤ pos n) past))
    (λ e. rw e (sym (minus_less 90000000 south (ltb-false 90000000 south e))))

-- So a point lies its row's distance below the first latitude, in whole numbers with a sign.
pub latitude_is : {g : DegreeGrid} {n : ℕ} {p : Position} → g.first.latitude.size ≤ 90000000 → (l : LiesAt g n p) → whole p.latitude ≡ whole g.first.latitude -ℤ pos l.south
latitude_is {g} first l =
    ap whole l.latitude
    ∙ latitude_at_is (south_of g.first.latitude + l.south)
    ∙ minus_sum (pos 90000000) (south_of g.first.latitude) l.south
    ∙ ap (λ (z : ℤ). z -ℤ pos l.south) (sym (south_is g.first.latitude first))

-- Down to the south pole the latitude is one, and lies as far south as was said.
at_most : (south : ℕ) → south ≤ 180000000 → (latitude_at south).size ≤ 90000000
at_most south few = grind arith

south_back : (south : ℕ) → south ≤ 180000000 → south_of (latitude_at south) ≡ south
south_back south few = grind arith

-- What is known of a grid that is taken: its steps are as many as its spans allow, so that a single column, or row, has no span.
spans : (g : DegreeGrid) (points : ℕ) → is_taken g points ≡ true → (span_east g ≤ (g.frame.ni - 1) * g.di + (g.frame.ni - 1)) × (span_south g ≤ (g.frame.nj - 1) * g.dj + (g.frame.nj - 1))
spans g points taken =
    let stepped = both _ _ (both _ _ taken).1 in
    (leb-true _ _ (both _ _ stepped.0).0, leb-true _ _ (both _ _ stepped.1).0)

no_steps : (count step span : ℕ) → span ≤ (count - 1) * step + (count - 1) → count ≡ 1 → span ≡ 0
no_steps count step span most one = omega (arith, rw one at most)

-- The first longitude and the span east of it lead to the last.
east_reaches : (g : DegreeGrid) → Cornered g → longitude_at (g.first.longitude + span_east g) ≡ g.last.longitude
east_reaches g corners = grind arith

module _ (g : DegreeGrid) (points : ℕ) (taken : is_taken g points ≡ true) where
  measured : Measured g
  measured = taken_measured g points taken

  corners : Cornered g
  corners = cornered g measured.corners

  flat_east : g.frame.ni ≡ 1 → span_east g ≡ 0
  flat_east = no_steps g.frame.ni g.di (span_east g) (spans g points taken).0

  flat_south : g.frame.nj ≡ 1 → span_south g ≡ 0
  flat_south = no_steps g.frame.nj g.dj (span_south g) (spans g points taken).1

  -- A point of the grid is in one of its rows, so that it lies no farther south than the last.
  row_inside : {n : ℕ} → n < points_in g.frame → row_of g.frame n < g.frame.nj
  row_inside {n} inside = (div-lt_iff_lt-mul {k = g.frame.ni} {x = n} {y = g.frame.nj} measured.columns).1 (omega (arith, inside, mul_comm g.frame.ni g.frame.nj))

  inside_row : {n : ℕ} → row_of g.frame n < g.frame.nj → n < points_in g.frame
  inside_row {n} inside = omega (arith, (div-lt_iff_lt-mul {k = g.frame.ni} {x = n} {y = g.frame.nj} measured.columns).0 inside, mul_comm g.frame.ni g.frame.nj)

  module _ {n : ℕ} {p : Position} (l : LiesAt g n p) where
    -- How far south of the north pole a point of the grid lies.
    south_inside : n < points_in g.frame → south_of g.first.latitude + l.south ≤ south_of g.last.latitude
    south_inside inside = omega (arith, away_inside measured.rows flat_south (row_inside inside) l.row, corners.southward)

    south_most : n < points_in g.frame → south_of g.first.latitude + l.south ≤ 180000000
    south_most inside = omega (arith, south_inside inside, south_bound g.last.latitude corners.last.latitude)

    size_most : n < points_in g.frame → p.latitude.size ≤ 90000000
    size_most inside = rw l.latitude (at_most _ (south_most inside))

    south_told : n < points_in g.frame → south_of p.latitude ≡ south_of g.first.latitude + l.south
    south_told inside = rw l.latitude (south_back _ (south_most inside))

    -- A point whose distance from the pole is a latitude's has that latitude, in whole numbers with a sign.
    whole_as : (latitude : Signed) → latitude.size ≤ 90000000 → south_of g.first.latitude + l.south ≡ south_of latitude → whole p.latitude ≡ whole latitude
    whole_as latitude small same =
        ap whole l.latitude
        ∙ latitude_at_is (south_of g.first.latitude + l.south)
        ∙ ap (λ (south : ℕ). pos 90000000 -ℤ pos south) same
        ∙ sym (south_is latitude small)

  pub lie_as_expected : AsExpected g
  lie_as_expected =
      record {
        first_column = λ l first.
            l.longitude ∙ rw (first_away measured.columns flat_east first l.column) (omega (arith, corners.first.longitude));
        last_column = λ l last.
            l.longitude ∙ rw (last_away measured.columns flat_east last l.column) (east_reaches g corners);
        first_row = λ l first.
            whole_as l g.first.latitude corners.first.latitude (omega (arith, first_away measured.rows flat_south first l.row));
        last_row = λ l last.
            whole_as l g.last.latitude corners.last.latitude (omega (arith, last_away measured.rows flat_south last l.row, corners.southward));
        near_column = λ l. away_near measured.columns flat_east l.column;
        near_row = λ l. away_near measured.rows flat_south l.row;
        eastward = λ l k before. away_orders measured.columns flat_east before l.column k.column;
        southward = λ {m} {n} {p} {q} l k before inside.
            let earlier : m < points_in g.frame = inside_row (omega (arith, before, row_inside inside)) in
            (south_orders p.latitude q.latitude (size_most l earlier) (size_most k inside)).0
            (omega (arith, south_told l earlier, south_told k inside, away_orders measured.rows flat_south before l.row k.row));
        not_past_east = λ {n} l. away_inside measured.columns flat_east (mod-lt n measured.columns) l.column;
        not_past_south = λ {n} {p} l inside.
            (south_orders p.latitude g.last.latitude (size_most l inside) corners.last.latitude).0 (omega (arith, south_told l inside, south_inside l inside));
        on_earth = λ {n} {p} l inside.
            let turned : p.longitude ≤ 359999999 = rw l.longitude (omega (arith, mod-lt (g.first.longitude + l.east) {m = 360000000} (omega arith))) in
            rw (le-leb p.latitude.size 90000000 (size_most l inside), le-leb p.longitude 359999999 turned);
      }
