-- What is known where a point is asked for: of a grid on which it is to be told, and of a refusal.
use Prim.Native.Nat.{ℕ, ◌≤◌, ◌<◌}
use mathlib.Core.Path.{◌≡◌, refl, sym, ap, subst, ◌∙◌}
use mathlib.Core.Bool.{true, cond}
use mathlib.Core.List.{List}
use native.Mathlib.Omega.{arith}
use borrow.Author.Tests.{leb-false, ltb-false, lt-leb, le-ltb}
use lib.Dec.{eqb, leb, ltb}
use Rattle.octets.proofs.Cases.{apart, split}
use Rattle.refusals.specs.declared.Refusal.{Refusal}
use Rattle.refusals.specs.declared.Why.TheVariants as Why
use Rattle.refusals.specs.Refusals.{refusal}
use Rattle.tiling.specs.Tiling.{largest}
use Rattle.section.specs.Sections.{held}
use Rattle.section_3_geometry.specs.declared.DegreeGrid.{DegreeGrid}
use Rattle.section_3_geometry.specs.declared.LambertGrid.{LambertGrid}
use Rattle.section_3_geometry.specs.declared.Grid.{Grid}
use Rattle.section_3_geometry.specs.Geometry as Degrees
use Rattle.section_3_geometry.specs.Geometry.{points_of, template_of}
use Rattle.section_3_lambert.specs.Lambert as Lambert
use Rattle.section_3.proofs.Laws.{Passes}
use Rattle.question.specs.declared.Description.{Description}
use Rattle.question.specs.Describe.{describe}
use Rattle.question.proofs.Laws.{describe_placed, described_grid}
use Rattle.question_place.specs.Place.{place_length, point_asked, degrees_if, degrees_asked, degrees_of, on_degrees, lambert_if, lambert_asked, lambert_of, on_lambert}
use Rattle.std.specs.Prelude.{Result, Ok, Err, ⊤}

-- A refusal names a place within the largest file that is taken.
abbrev pub Within : Result ⊤ Refusal → Type 0
Within (Ok tt) = Unit {0}
Within (Err r) = r.place.0 ≤ largest

-- A point that is asked for is taken exactly where the grid has it and there is room.
module _ (n needed room : ℕ) (g : Grid) where
  pub point_taken : n < points_of g → needed ≤ room → point_asked n needed room g ≡ Ok tt
  point_taken below fits = rw (lt-leb (points_of g) n below, le-ltb room needed fits)

  pub taken_point : point_asked n needed room g ≡ Ok tt → (n < points_of g) × (needed ≤ room)
  taken_point e =
      split (leb (points_of g) n)
      (λ beyond. let other = rw beyond at e in apart cc)
      (λ below.
      split (ltb room needed)
      (λ short. let other = rw (below, short) at e in apart cc)
      (λ fits. (leb-false (points_of g) n below, ltb-false room needed fits)))

  -- A refusal of it is placed within the largest file that is taken.
  pub point_within : Within (point_asked n needed room g)
  point_within =
      split (leb (points_of g) n)
      (λ beyond. rw beyond (omega arith))
      (λ below. split (ltb room needed) (λ short. rw (below, short) (omega arith)) (λ fits. rw (below, fits) tt))

-- What is known of the grid of field k, where its place is to be told of point n in a run of this length.
pub record Placeable (file : List ℕ) (k n room : ℕ) (g : Grid) : Type 0 where
  pub d : Description
  pub describes : describe file k ≡ Ok d
  pub kind : d.grid ≡ g
  pub below : n < points_of g
  pub fits : place_length ≤ room

module _ (file : List ℕ) (k n room : ℕ) where
  -- A grid is answered exactly where the field is described, its grid is of the kind, has the point, and the run has room.
  pub judged_degrees : {g : DegreeGrid} → on_degrees file k n room ≡ Ok g → Placeable file k n room (Grid.Degrees g)
  judged_degrees {g} = by (describe file k) refl
    where
      pointed : (f : DegreeGrid) (a : Result ⊤ Refusal) → point_asked n place_length room (Grid.Degrees f) ≡ a → degrees_if f a ≡ Ok g → (f ≡ g) × (point_asked n place_length room (Grid.Degrees f) ≡ Ok tt)
      pointed f (Ok tt) is e = (cc, is)
      pointed f (Err r) is e = apart cc

      gridded : (d : Description) (h : Grid) → describe file k ≡ Ok d → d.grid ≡ h → degrees_asked n room h ≡ Ok g → Placeable file k n room (Grid.Degrees g)
      gridded d (Grid.Degrees f) is kind e =
          let answered = pointed f (point_asked n place_length room (Grid.Degrees f)) refl e in
          let known = taken_point n place_length room (Grid.Degrees f) answered.1 in
          subst (λ (h : DegreeGrid). Placeable file k n room (Grid.Degrees h)) answered.0 (record { d = d; describes = is; kind = kind; below = known.0; fits = known.1 })
      gridded d (Grid.Lambert f) is kind e = apart cc

      by : (a : Result Description Refusal) → describe file k ≡ a → degrees_of n room a ≡ Ok g → Placeable file k n room (Grid.Degrees g)
      by (Ok d) is e = gridded d d.grid is refl e
      by (Err r) is e = apart cc

  pub degrees_judged : {g : DegreeGrid} → Placeable file k n room (Grid.Degrees g) → on_degrees file k n room ≡ Ok g
  degrees_judged {g} known = ap (degrees_of n room) known.describes ∙ ap (degrees_asked n room) known.kind ∙ ap (degrees_if g) (point_taken n place_length room (Grid.Degrees g) known.below known.fits)

  pub judged_lambert : {g : LambertGrid} → on_lambert file k n room ≡ Ok g → Placeable file k n room (Grid.Lambert g)
  judged_lambert {g} = by (describe file k) refl
    where
      pointed : (f : LambertGrid) (a : Result ⊤ Refusal) → point_asked n place_length room (Grid.Lambert f) ≡ a → lambert_if f a ≡ Ok g → (f ≡ g) × (point_asked n place_length room (Grid.Lambert f) ≡ Ok tt)
      pointed f (Ok tt) is e = (cc, is)
      pointed f (Err r) is e = apart cc

      gridded : (d : Description) (h : Grid) → describe file k ≡ Ok d → d.grid ≡ h → lambert_asked n room h ≡ Ok g → Placeable file k n room (Grid.Lambert g)
      gridded d (Grid.Lambert f) is kind e =
          let answered = pointed f (point_asked n place_length room (Grid.Lambert f)) refl e in
          let known = taken_point n place_length room (Grid.Lambert f) answered.1 in
          subst (λ (h : LambertGrid). Placeable file k n room (Grid.Lambert h)) answered.0 (record { d = d; describes = is; kind = kind; below = known.0; fits = known.1 })
      gridded d (Grid.Degrees f) is kind e = apart cc

      by : (a : Result Description Refusal) → describe file k ≡ a → lambert_of n room a ≡ Ok g → Placeable file k n room (Grid.Lambert g)
      by (Ok d) is e = gridded d d.grid is refl e
      by (Err r) is e = apart cc

  pub lambert_judged : {g : LambertGrid} → Placeable file k n room (Grid.Lambert g) → on_lambert file k n room ≡ Ok g
  lambert_judged {g} known = ap (lambert_of n room) known.describes ∙ ap (lambert_asked n room) known.kind ∙ ap (lambert_if g) (point_taken n place_length room (Grid.Lambert g) known.below known.fits)

  -- The grid has passed the tests of its kind, and has not too many points.
  pub degrees_passes : {g : DegreeGrid} → Placeable file k n room (Grid.Degrees g) → (points : ℕ) × (Degrees.is_taken g points ≡ true) × (points_of (Grid.Degrees g) ≤ 16777216)
  degrees_passes known =
      let grid = described_grid file k known.describes in
      (held file grid.0 7 10, (subst (Passes file grid.0) known.kind grid.1).0, rw known.kind at grid.2)

  pub lambert_passes : {g : LambertGrid} → Placeable file k n room (Grid.Lambert g) → (points : ℕ) × (Lambert.is_lambert_grid g points ≡ true) × (points_of (Grid.Lambert g) ≤ 16777216)
  lambert_passes known =
      let grid = described_grid file k known.describes in
      (held file grid.0 7 10, (subst (Passes file grid.0) known.kind grid.1).0, rw known.kind at grid.2)

-- Both questions are judged alike: the kind is tried first, by its template, and then the point.
abbrev pub kind_asked : ℕ → ℕ → ℕ → Grid → Result ⊤ Refusal
kind_asked template n room g = cond (eqb (template_of g) template) (point_asked n place_length room g) (Err (refusal Why.OtherGrid 0))

abbrev pub point_of : ℕ → ℕ → ℕ → Result Description Refusal → Result ⊤ Refusal
point_of template n room (Ok d) = kind_asked template n room d.grid
point_of template n room (Err r) = Err r

abbrev pub in_degrees_as : Result DegreeGrid Refusal → Result ⊤ Refusal
in_degrees_as (Ok g) = Ok tt
in_degrees_as (Err r) = Err r

abbrev pub on_lambert_as : Result LambertGrid Refusal → Result ⊤ Refusal
on_lambert_as (Ok g) = Ok tt
on_lambert_as (Err r) = Err r

pub degrees_alike : (n room : ℕ) (a : Result Description Refusal) → in_degrees_as (degrees_of n room a) ≡ point_of 0 n room a
degrees_alike n room (Err r) = refl
degrees_alike n room (Ok d) = by d.grid
  where
    same : (g : DegreeGrid) (a : Result ⊤ Refusal) → in_degrees_as (degrees_if g a) ≡ a
    same g (Ok tt) = refl
    same g (Err r) = refl

    by : (g : Grid) → in_degrees_as (degrees_asked n room g) ≡ kind_asked 0 n room g
    by (Grid.Degrees g) = same g (point_asked n place_length room (Grid.Degrees g))
    by (Grid.Lambert g) = refl

pub lambert_alike : (n room : ℕ) (a : Result Description Refusal) → on_lambert_as (lambert_of n room a) ≡ point_of 30 n room a
lambert_alike n room (Err r) = refl
lambert_alike n room (Ok d) = by d.grid
  where
    same : (g : LambertGrid) (a : Result ⊤ Refusal) → on_lambert_as (lambert_if g a) ≡ a
    same g (Ok tt) = refl
    same g (Err r) = refl

    by : (g : Grid) → on_lambert_as (lambert_asked n room g) ≡ kind_asked 30 n room g
    by (Grid.Degrees g) = refl
    by (Grid.Lambert g) = same g (point_asked n place_length room (Grid.Lambert g))

module _ (file : List ℕ) (k n room : ℕ) where
  asked_within : (template : ℕ) → Within (point_of template n room (describe file k))
  asked_within template = by (describe file k) refl
    where
      by : (a : Result Description Refusal) → describe file k ≡ a → Within (point_of template n room a)
      by (Err r) is = describe_placed file k is
      by (Ok d) is =
          split (eqb (template_of d.grid) template) (λ kind. rw kind (point_within n place_length room d.grid)) (λ other. rw other (omega arith))

  pub degrees_placed : {r : Refusal} → on_degrees file k n room ≡ Err r → r.place.0 ≤ largest
  degrees_placed e = subst Within (sym (degrees_alike n room (describe file k)) ∙ ap in_degrees_as e) (asked_within 0)

  pub lambert_placed : {r : Refusal} → on_lambert file k n room ≡ Err r → r.place.0 ≤ largest
  lambert_placed e = subst Within (sym (lambert_alike n room (describe file k)) ∙ ap on_lambert_as e) (asked_within 30)
