-- Demand 3: each double that decode writes, or point tells, for a point that is present lies within one part in 2^51 of the exact fraction (R + X 2^E) / 10^D. The statement
-- compares whole numbers: see Meets, Near, exactS and writtenV in theorems_bound/specs/Bound.antt.
use Rattle.std.specs.Prelude.{ℕ, ◌+◌, ◌<◌, ◌≡◌, List, pos, Float, Some, Ok}
use Rattle.section_3_geometry.specs.Geometry.{points_of}
use Rattle.theorems_bound.specs.Bound.{exact_s, Meets, InLimits}
use Rattle.question.specs.declared.Description.{Description}
use Rattle.question.specs.Describe.{describe}
use Rattle.question.specs.Judge.{integer_of}
use Rattle.question_decode.specs.Decoding.{rank_of}
use Rattle.question_point.specs.Point.{point}
use Rattle.theorems_demands.specs.Demand2.{BothRuns, value_in, mark_in, Call, Decodes, answer_to, left_behind}

-- The double that is written for a point that is present, with R, E and D as section 5 holds them and X by demand 2: they are in their limits, and the double
-- is finite, near, and zero where the fraction is.
pub record RebuiltNear (d : Description) (x : ℕ) (written : Float) : Type 0 where
  pub limits : InLimits d.representation.r d.representation.e d.representation.d x
  pub meets : Meets d.representation.d.negative d.representation.d.size (exact_s d.representation.r d.representation.e x) written

-- So it is at each point that a call of decode has marked as present.
abbrev pub AllNear : List ℕ → Call → BothRuns → Description → Type 0
AllNear file c left d =
    (i x : ℕ) →
    i < points_of d.grid →
    mark_in left (c.start + i) ≡ 1 →
    integer_of file d (rank_of file d i) ≡ pos x →
    RebuiltNear d x (value_in left (c.start + i))

-- The demand, of every file.
pub record Demand3 (file : List ℕ) : Type 0 where
  pub near : (c : Call) (n : ℕ) (d : Description) → answer_to file c ≡ Ok n → Decodes file c (left_behind file c) d → AllNear file c (left_behind file c) d
  -- So it is of a point that is told alone.
  pub near_alone :
      (k n x : ℕ) (d : Description) (v : Float) →
      describe file k ≡ Ok d →
      n < points_of d.grid →
      point file k n ≡ Ok (Some v) →
      integer_of file d (rank_of file d n) ≡ pos x →
      RebuiltNear d x v
