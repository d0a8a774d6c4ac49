-- The numbers of a field that is described, and of where its points lie, are within what the machine's numbers with a sign hold.
use mathlib.Core.Path.{◌≡◌, sym, subst}
use mathlib.Core.List.{List}
use mathlib.Core.Bool.{true}
use Prim.Native.Nat.{ℕ, ◌*◌, ◌^◌, ◌≤◌, ◌<◌}
use native.Mathlib.Nat.{mod-lt, mod-le, div-le_self, mul-le-mul}
use native.Mathlib.Omega.{arith}
use Rattle.section.specs.Sections.{held}
use Rattle.section_3_geometry.specs.declared.DegreeGrid.{DegreeGrid}
use Rattle.section_3_geometry.specs.declared.LambertGrid.{LambertGrid}
use Rattle.section_3_geometry.specs.declared.Grid.{Grid}
use Rattle.section_3_geometry.specs.Geometry as Degrees
use Rattle.section_3_geometry.specs.Geometry.{points_in}
use Rattle.section_3_geometry.proofs.Tests.{placed, cornered}
use Rattle.section_3_geometry.proofs.Laws as degrees
use Rattle.section_3_positions.specs.Quotients.{position_of}
use Rattle.section_3_positions.proofs.Laws.{position_lies, lie_as_expected}
use Rattle.section_3_lambert.specs.Lambert as Lambert
use Rattle.section_3_lambert.specs.Sheet.{sheet_of}
use Rattle.section_3_lambert.proofs.Laws as sheet
use Rattle.section_3.proofs.Laws.{Passes}
use Rattle.section_4.specs.declared.Level.{Level}
use Rattle.section_4.specs.Product.{level_at}
use Rattle.section_4.proofs.Laws.{defined_tells, level_read}
use Rattle.question.specs.declared.Description.{Description}
use Rattle.question.specs.Describe.{describe}
use Rattle.question.proofs.Laws.{described, described_laid, described_grid}
use Rattle.question.proofs.Known.{scaled}
use Rattle.question_numbers.specs.Held.{LatitudesHeld, SheetHeld, factor_size, StartsHeld, Held}
use Rattle.std.specs.Prelude.{Option, Some, Ok}

-- One octet holds the factor of a level.
level_held_lem : (file : List ℕ) (s : ℕ) (level : Option Level) → level_at file s ≡ Some level → factor_size level ≤ 127
level_held_lem file s level e =
    level_read file s (λ (l : Option Level). factor_size l ≤ 127) level e (λ _. omega arith) (λ _. omega (arith, mod-lt (held file s 24 24) {m = 128} (omega arith)))

-- The latitudes of a grid that has passed its tests are within their limits.
latitudes_held : (file : List ℕ) (s : ℕ) (g : Grid) → Passes file s g → LatitudesHeld g
latitudes_held file s (Grid.Degrees g) passes =
    let corners = cornered g (degrees.taken_measured g (held file s 7 10) passes.0).corners in
    (corners.first.latitude, corners.last.latitude)
latitudes_held file s (Grid.Lambert g) passes =
    let cone = sheet.taken_cone g (held file s 7 10) passes.0 in
    (sheet.taken_first g (held file s 7 10) passes.0, cone.0, cone.1, cone.2)

module _ (file : List ℕ) (k : ℕ) {d : Description} (said : describe file k ≡ Ok d) where
  starts_held : StartsHeld d.starts
  starts_held =
      let known = described file k said in
      let laid = described_laid file k known.1 in
      let few = laid.0 in
      let all = laid.1 in
      subst StartsHeld (sym known.2.of_starts)
      (record {
        one = omega (arith, few, all.one.room);
        three = omega (arith, few, all.three.room);
        four = omega (arith, few, all.four.room);
        five = omega (arith, few, all.five.room);
        six = omega (arith, few, all.six.room);
        seven = omega (arith, few, all.seven.room);
      })

  pub described_held : Held d
  described_held =
      let known = described file k said in
      let grid = described_grid file k said in
      let scales = scaled file d (k, said) in
      record {
        of_grid = (latitudes_held file grid.0 d.grid grid.1, grid.2);
        of_level = level_held_lem file known.0.starts.four.0 d.definition.level (defined_tells file known.0.starts.four.0 d.identification.reference known.2.of_four).level;
        of_representation = (scales.e127, scales.d22);
        of_starts = starts_held;
      }

-- A point that a grid in degrees has lies on the earth.
pub placed_held : (g : DegreeGrid) (points n : ℕ) → Degrees.is_taken g points ≡ true → n < points_in g.frame → (position_of g n).latitude.size < 9223372036854775808
placed_held g points n taken inside =
    let lies = lie_as_expected g points taken in
    omega (arith, (placed (position_of g n) (lies.on_earth (position_lies g n) inside)).latitude)

-- No point of a Lambert grid lies too far from the first for its place to be told.
product_held : {i length : ℕ} → i < 2 ^ 32 → length < 2 ^ 31 → i * length < 9223372036854775808
product_held {i} {length} h k = let most : i * length ≤ 4294967295 * 2147483647 = mul-le-mul {n₂ = 4294967295} {m₂ = 2147483647} (omega arith) (omega arith) in omega arith

pub sheet_held : (g : LambertGrid) (points n : ℕ) → Lambert.is_lambert_grid g points ≡ true → n < 2 ^ 32 → SheetHeld (sheet_of g n)
sheet_held g points n taken few =
    let measured = sheet.taken_measured g points taken in (
      product_held {length = g.dx} (omega (arith, few, mod-le n g.frame.ni)) (omega (arith, measured.across)),
      product_held {length = g.dy} (omega (arith, few, div-le_self n g.frame.ni)) (omega (arith, measured.down)),
    )
