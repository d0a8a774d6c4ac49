-- The laws of a Lambert grid that others cite: what is known of one that is taken.
use mathlib.Core.Path.{◌≡◌}
use mathlib.Core.Bool.{true}
use Prim.Native.Nat.{ℕ, ◌≤◌}
use native.Mathlib.Omega.{arith}
use Rattle.octets.proofs.Cases.{both}
use Rattle.section_3_geometry.specs.declared.LambertGrid.{LambertGrid}
use Rattle.section_3_geometry.specs.Geometry.{is_counted, is_position}
use Rattle.section_3_geometry.proofs.Tests.{Counted, counted, placed}
use Rattle.section_3_lambert.specs.Lambert.{is_coned, is_spaced, is_lambert_grid}
use Rattle.section_3_lambert.specs.Sheet.{SheetMeasured}

-- What the tests of its lengths and of its cone tell.
lengths : (g : LambertGrid) → is_spaced g ≡ true → (g.dx ≤ 2147483647) × (g.dy ≤ 2147483647)
lengths g e = grind arith

cone : (g : LambertGrid) → is_coned g ≡ true → (g.stated.size ≤ 90000000) × (g.cut1.size ≤ 90000000) × (g.cut2.size ≤ 90000000)
cone g e = grind arith

module _ (g : LambertGrid) (points : ℕ) (e : is_lambert_grid g points ≡ true) where
  -- Each of its tests holds.
  tests : (is_counted g.frame points ≡ true) × (is_position g.first ≡ true) × (is_coned g ≡ true) × (is_spaced g ≡ true)
  tests =
      let spaced = both _ _ e in
      let coned = both _ _ spaced.0 in
      let start = both _ _ coned.0 in
      (start.0, start.1, coned.1, spaced.1)

  -- It has columns and rows, and as many points as are told.
  pub taken_counted : Counted g.frame points
  taken_counted = counted g.frame points tests.0

  -- Its points can be placed on the sheet.
  pub taken_measured : SheetMeasured g
  taken_measured = record { columns = taken_counted.columns1; across = (lengths g tests.3).0; down = (lengths g tests.3).1 }

  -- Its latitudes are within their limits.
  pub taken_first : g.first.latitude.size ≤ 90000000
  taken_first = (placed g.first tests.1).latitude

  pub taken_cone : (g.stated.size ≤ 90000000) × (g.cut1.size ≤ 90000000) × (g.cut2.size ≤ 90000000)
  taken_cone = cone g tests.2
