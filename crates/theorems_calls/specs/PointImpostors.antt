-- RULES, "How strong each statement is": readers that would satisfy weaker statements of skeptolyr_point. Each of these is any function that meets the contract for
-- every input, and yet does as the impostor does: there is none.
use Rattle.std.specs.Prelude.{ℕ, ◌+◌, ◌^◌, ◌≤◌, ◌<◌, ◌≡◌, List, Float, length, None, Ok}
use Rattle.section_3_geometry.specs.declared.Grid.{Grid}
use Rattle.question_decode.specs.Decoding.{answer}
use Rattle.question_point.specs.Point.{point_into}
use Rattle.skeptolyr.specs.Codes.{decode_code, point_code, point_left}
use Rattle.theorems_demands.specs.Demand2.{HasPoint}

-- What a call leaves: its answer, and the run.
pub record Shown : Type 0 where
  pub answer : ℕ
  pub run : List Float

abbrev pub shown : List ℕ → ℕ → ℕ → List Float → Shown
shown file k n run = record { answer = point_code (point_into file k n (length run)); run = point_left run (point_into file k n (length run)) }

-- A function that tells a point, and that it meets its contract.
abbrev pub Pointer : Type 0
Pointer = List ℕ → ℕ → ℕ → List Float → Shown

abbrev pub MeetsPoint : Pointer → Type 0
MeetsPoint f = (file : List ℕ) (k n : ℕ) (run : List Float) → f file k n run ≡ shown file k n run

-- Decode refuses field k, with runs that have room for any field.
abbrev pub RefusedByDecode : List ℕ → ℕ → Type 0
RefusedByDecode file k = 2 ^ 63 ≤ decode_code (answer file k 0 16777216 16777216)

-- What no function does that meets the contract of skeptolyr_point.
pub record NoImpostorForPoint : Type 0 where
  -- One that tells of point 0 for every point that the field has, one that tells the next point, and one that answers and puts nothing.
  pub tells_point_0 :
      (f : Pointer) → MeetsPoint f →
      ((file : List ℕ) (k n : ℕ) (g : Grid) (run : List Float) → HasPoint file k n g → (f file k n run).answer ≡ (f file k 0 run).answer) → ⊥
  pub tells_the_next : (f : Pointer) → MeetsPoint f → ((file : List ℕ) (k n : ℕ) (run : List Float) → (shown file k (n + 1) run).answer < 2 ^ 63 → f file k n run ≡ shown file k (n + 1) run) → ⊥
  pub tells_nothing : (f : Pointer) → MeetsPoint f → ((file : List ℕ) (k n : ℕ) (run : List Float) → (f file k n run).run ≡ run) → ⊥
  -- One that refuses a field's points wherever decode refuses the field, and one that so refuses those that are missing.
  pub refuses_with_decode : (f : Pointer) → MeetsPoint f → ((file : List ℕ) (k n : ℕ) (run : List Float) → RefusedByDecode file k → 2 ^ 63 ≤ (f file k n run).answer) → ⊥
  pub refuses_the_missing :
      (f : Pointer) → MeetsPoint f →
      ((file : List ℕ) (k n : ℕ) (run : List Float) → RefusedByDecode file k → point_into file k n (length run) ≡ Ok None → 2 ^ 63 ≤ (f file k n run).answer) → ⊥
  -- One that tells every point that a field has, and so never refuses with 16.
  pub tells_every_point :
      (f : Pointer) → MeetsPoint f →
      ((file : List ℕ) (k n : ℕ) (g : Grid) (run : List Float) → HasPoint file k n g → 1 ≤ length run → (f file k n run).answer < 2 ^ 63) → ⊥
