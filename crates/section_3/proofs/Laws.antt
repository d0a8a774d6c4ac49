-- What is known of a grid that a section 3 describes: its numbers have passed the tests of its kind, and its template is the section's.
use mathlib.Core.Path.{◌≡◌, sym, subst}
use mathlib.Core.Bool.{true}
use mathlib.Core.List.{List}
use Prim.Native.Nat.{ℕ, ◌≤◌}
use borrow.Author.Tests.{eqb-true}
use Rattle.octets.proofs.Cases.{apart, split, both}
use Rattle.section.specs.Sections.{held}
use Rattle.section_3_geometry.specs.declared.Grid.{Grid}
use Rattle.section_3_geometry.specs.Geometry as Degrees
use Rattle.section_3_geometry.specs.Geometry.{frame_of, points_of, template_of}
use Rattle.section_3_geometry.proofs.Tests.{Counted}
use Rattle.section_3_geometry.proofs.Laws as degrees
use Rattle.section_3_lambert.specs.Lambert as Lambert
use Rattle.section_3_lambert.proofs.Laws as lambert
use Rattle.section_3.specs.Section3.{is_of, is_scanned, is_projected, radius_at, degree_numbers_at, degrees_by, degrees_at, lambert_numbers_at, lambert_by, lambert_at, grid_at}
use Rattle.std.specs.Prelude.{Option, Some, None}

-- A section that is not taken has no grid, and one that is has one alone.
never : {A : Type 0} {g : Grid} → None ≡ Some g → A
never {A} {g} e = apart cc

on_only : {f g : Grid} → Some f ≡ Some g → f ≡ g
on_only e = cc

module _ (file : List ℕ) (s : ℕ) where
  -- Where the points are told, in octets 7-10.
  abbrev points : ℕ
  points = held file s 7 10

  -- The template of a section of a length and a template is the one in its octets.
  template_told : (length template : ℕ) → is_of file s length template ≡ true → held file s 13 14 ≡ template
  template_told length template e = eqb-true _ _ (both _ _ e).1

  -- A grid of a kind that has passed the tests of its kind, and the template of that kind.
  abbrev pub Passes : Grid → Type 0
  Passes (Grid.Degrees g) = (Degrees.is_taken g points ≡ true) × (held file s 13 14 ≡ 0)
  Passes (Grid.Lambert g) = (Lambert.is_lambert_grid g points ≡ true) × (held file s 13 14 ≡ 30)

  -- The grid in degrees that a section describes, by its radius, has passed the tests; and so has a Lambert grid.
  degrees_by_lem : (radius : Option ℕ) {g : Grid} → is_of file s 72 0 ≡ true → degrees_by file s radius ≡ Some g → Passes g
  degrees_by_lem (Some radius) {g} is e =
      split (Degrees.is_taken (degree_numbers_at file s radius) points)
      (λ holds. subst Passes (on_only (rw holds at e)) (holds, template_told 72 0 is))
      (λ fails. never (rw fails at e))
  degrees_by_lem None is e = never e

  lambert_by_lem : (radius : Option ℕ) {g : Grid} → is_of file s 81 30 ≡ true → lambert_by file s radius ≡ Some g → Passes g
  lambert_by_lem (Some radius) {g} is e =
      split (Lambert.is_lambert_grid (lambert_numbers_at file s radius) points)
      (λ holds. subst Passes (on_only (rw holds at e)) (holds, template_told 81 30 is))
      (λ fails. never (rw fails at e))
  lambert_by_lem None is e = never e

  in_order_of_degrees : {g : Grid} → is_of file s 72 0 ≡ true → degrees_at file s ≡ Some g → Passes g
  in_order_of_degrees is e = split (is_scanned file s) (λ holds. degrees_by_lem (radius_at file s) is (rw holds at e)) (λ fails. never (rw fails at e))

  in_order_of_lambert : {g : Grid} → is_of file s 81 30 ≡ true → lambert_at file s ≡ Some g → Passes g
  in_order_of_lambert is e = split (is_projected file s) (λ holds. lambert_by_lem (radius_at file s) is (rw holds at e)) (λ fails. never (rw fails at e))

  -- A section that describes a grid describes one that has passed the tests of its kind.
  pub grid_passes : {g : Grid} → grid_at file s ≡ Some g → Passes g
  unfolding grid_at
  grid_passes e =
      split (is_of file s 72 0) (λ is. in_order_of_degrees is (rw is at e))
      (λ other. split (is_of file s 81 30) (λ is. in_order_of_lambert is (rw (other, is) at e)) (λ neither. never (rw (other, neither) at e)))

  -- So its template is the one in the octets.
  pub grid_template : {g : Grid} → grid_at file s ≡ Some g → template_of g ≡ held file s 13 14
  grid_template {g} e = by g (grid_passes e)
    where
      by : (g : Grid) → Passes g → template_of g ≡ held file s 13 14
      by (Grid.Degrees g) passes = sym passes.1
      by (Grid.Lambert g) passes = sym passes.1

  -- It has points in its rows and columns, and not too many.
  pub grid_counted : {g : Grid} → grid_at file s ≡ Some g → Counted (frame_of g) points
  grid_counted {g} e = by g (grid_passes e)
    where
      by : (g : Grid) → Passes g → Counted (frame_of g) points
      by (Grid.Degrees g) passes = degrees.taken_counted g points passes.0
      by (Grid.Lambert g) passes = lambert.taken_counted g points passes.0

  pub grid_few : {g : Grid} → grid_at file s ≡ Some g → points_of g ≤ 16777216
  grid_few e = let count = grid_counted e in rw count.all at count.most
