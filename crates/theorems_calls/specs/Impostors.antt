-- RULES, "How strong each statement is": readers that would satisfy weaker statements of skeptolyr_describe, skeptolyr_place and skeptolyr_sheet. Each of these is
-- any function that meets the contract for every input, and yet does as the impostor does: there is none.
use Rattle.std.specs.Prelude.{ℕ, ◌+◌, ◌-◌, ◌*◌, ◌/◌, ◌≡◌, List, ℤ, length, Result, Ok, Err}
use Rattle.section_3_geometry.specs.declared.DegreeGrid.{DegreeGrid}
use Rattle.section_3_geometry.specs.declared.LambertGrid.{LambertGrid}
use Rattle.section_3_geometry.specs.Geometry.{column_of, row_of, south_of, span_east, span_south}
use Rattle.section_3_positions.specs.Positions.{longitude_at, latitude_at}
use Rattle.question_place.specs.Place.{on_degrees, on_lambert}
use Rattle.question_numbers.specs.Numbers.{position_numbers, sheet_numbers}
use Rattle.skeptolyr.specs.Codes.{Answer, numbers, refused, numbers_code, numbers_left, described_for, placed_for, sheet_for}
use Rattle.refusals.specs.declared.Refusal.{Refusal}

-- What a call leaves: its answer, and the run of numbers.
pub record Told : Type 0 where
  pub answer : ℕ
  pub run : List ℤ

abbrev pub told_by : List ℤ → Answer → Told
told_by run a = record { answer = numbers_code a; run = numbers_left run a }

-- A function that describes, one that places, and one that places on the sheet, and that each meets its contract.
abbrev pub Describer : Type 0
Describer = List ℕ → ℕ → List ℤ → Told

abbrev pub MeetsDescribe : Describer → Type 0
MeetsDescribe f = (file : List ℕ) (k : ℕ) (run : List ℤ) → f file k run ≡ told_by run (described_for file k run)

abbrev pub Placer : Type 0
Placer = List ℕ → ℕ → ℕ → List ℤ → Told

abbrev pub MeetsPlace : Placer → Type 0
MeetsPlace f = (file : List ℕ) (k n : ℕ) (run : List ℤ) → f file k n run ≡ told_by run (placed_for file k n run)

abbrev pub MeetsSheet : Placer → Type 0
MeetsSheet f = (file : List ℕ) (k n : ℕ) (run : List ℤ) → f file k n run ≡ told_by run (sheet_for file k n run)

-- Where a point does not lie: by steps of Di and Dj from the first point on, and with each distance rounded down.
abbrev pub by_steps : ℕ → DegreeGrid → List ℤ
by_steps n g =
    position_numbers (
    record {
      latitude = latitude_at (south_of g.first.latitude + row_of g.frame n * g.dj);
      longitude = longitude_at (g.first.longitude + column_of g.frame n * g.di);
    })

abbrev pub rounded_down : ℕ → DegreeGrid → List ℤ
rounded_down n g =
    position_numbers (
    record {
      latitude = latitude_at (south_of g.first.latitude + row_of g.frame n * span_south g / (g.frame.nj - 1));
      longitude = longitude_at (g.first.longitude + column_of g.frame n * span_east g / (g.frame.ni - 1));
    })

-- And on the sheet: with Dx and Dy swapped, and with the rows counted upward from the last one.
abbrev pub swapped : ℕ → LambertGrid → List ℤ
swapped n g = sheet_numbers (record { right = column_of g.frame n * g.dy; down = row_of g.frame n * g.dx })

abbrev pub upward : ℕ → LambertGrid → List ℤ
upward n g = sheet_numbers (record { right = column_of g.frame n * g.dx; down = (g.frame.nj - 1 - row_of g.frame n) * g.dy })

-- What is left of a run where these numbers are put in place of the right ones.
abbrev pub wrongly_placed : (DegreeGrid → List ℤ) → Result DegreeGrid Refusal → Answer
wrongly_placed told (Ok g) = numbers (told g)
wrongly_placed told (Err r) = refused r

abbrev pub wrongly_on_sheet : (LambertGrid → List ℤ) → Result LambertGrid Refusal → Answer
wrongly_on_sheet told (Ok g) = numbers (told g)
wrongly_on_sheet told (Err r) = refused r

abbrev pub PlacesAs : (ℕ → DegreeGrid → List ℤ) → Placer → Type 0
PlacesAs told f = (file : List ℕ) (k n : ℕ) (run : List ℤ) → (f file k n run).run ≡ numbers_left run (wrongly_placed (told n) (on_degrees file k n (length run)))

abbrev pub RollsAs : (ℕ → LambertGrid → List ℤ) → Placer → Type 0
RollsAs told f = (file : List ℕ) (k n : ℕ) (run : List ℤ) → (f file k n run).run ≡ numbers_left run (wrongly_on_sheet (told n) (on_lambert file k n (length run)))

-- What no function does that meets the contract of skeptolyr_describe, of skeptolyr_place, or of skeptolyr_sheet.
pub record NoImpostorForC : Type 0 where
  -- One that describes field 0 for every k, and one that answers and puts nothing.
  pub describes_field_0 : (f : Describer) → MeetsDescribe f → ((file : List ℕ) (k : ℕ) (run : List ℤ) → (f file k run).run ≡ (f file 0 run).run) → ⊥
  pub describes_nothing : (f : Describer) → MeetsDescribe f → ((file : List ℕ) (k : ℕ) (run : List ℤ) → (f file k run).run ≡ run) → ⊥
  -- One that places point 0 for every n, and one that answers and puts nothing.
  pub places_point_0 : (f : Placer) → MeetsPlace f → ((file : List ℕ) (k n : ℕ) (run : List ℤ) → (f file k n run).run ≡ (f file k 0 run).run) → ⊥
  pub places_nothing : (f : Placer) → MeetsPlace f → ((file : List ℕ) (k n : ℕ) (run : List ℤ) → (f file k n run).run ≡ run) → ⊥
  -- One that goes on by the steps, and one that rounds down.
  pub places_by_steps : (f : Placer) → MeetsPlace f → PlacesAs by_steps f → ⊥
  pub places_rounded_down : (f : Placer) → MeetsPlace f → PlacesAs rounded_down f → ⊥
  -- On the sheet: one that places point 0 for every n, one that answers and puts nothing, one that swaps Dx and Dy, and one whose rows go upward.
  pub rolls_point_0 : (f : Placer) → MeetsSheet f → ((file : List ℕ) (k n : ℕ) (run : List ℤ) → (f file k n run).run ≡ (f file k 0 run).run) → ⊥
  pub rolls_nothing : (f : Placer) → MeetsSheet f → ((file : List ℕ) (k n : ℕ) (run : List ℤ) → (f file k n run).run ≡ run) → ⊥
  pub rolls_swapped : (f : Placer) → MeetsSheet f → RollsAs swapped f → ⊥
  pub rolls_upward : (f : Placer) → MeetsSheet f → RollsAs upward f → ⊥
  -- One that tells degrees wherever there is a place on a sheet, and one that tells a place on a sheet wherever there are degrees.
  pub degrees_for_lambert : (f h : Placer) → MeetsPlace f → MeetsSheet h → ((file : List ℕ) (k n : ℕ) (run : List ℤ) → (h file k n run).answer ≡ 2 → (f file k n run).answer ≡ 2) → ⊥
  pub sheet_for_degrees : (f h : Placer) → MeetsPlace f → MeetsSheet h → ((file : List ℕ) (k n : ℕ) (run : List ℤ) → (f file k n run).answer ≡ 2 → (h file k n run).answer ≡ 2) → ⊥
