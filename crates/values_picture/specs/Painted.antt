-- RULES, "The picture": the greys of a field's points, missing ones among them. A point that is present has the grey of its own integer, which as many integers are
-- packed before as points before it are present.
use Rattle.std.specs.Prelude.{ℕ, zero, suc, ◌+◌, ◌≤◌, ◌≡◌, List, get_or}
use Rattle.greys.specs.declared.Scale.{Scale}
use Rattle.greys.specs.Greys.{point_grey}
use Rattle.values_points.specs.Written.{Marks, marks_in, Covers}

-- The grey of point i, where the integer numbered m is `x m`.
abbrev pub grey_at : Marks → Scale → (ℕ → ℕ) → ℕ → ℕ
grey_at m s x i = point_grey s.largest (m.mark i) (x (m.rank i))

-- What a point is given of a run that has the greys of the points that are present from place `from` on: its own, or 0 where it is missing.
abbrev pub given : List ℕ → ℕ → (mark rank : ℕ) → ℕ
given run from zero rank = 0
given run from (suc mark) rank = get_or run (from + rank) 0

abbrev pub given_at : Marks → List ℕ → (from i : ℕ) → ℕ
given_at m run from i = given run from (m.mark i) (m.rank i)

-- The run has an octet for each point, at most 16,777,216, which the bitmap covers. So many points are present.
abbrev pub Canvas : List ℕ → (points n : ℕ) → Type 0
Canvas bitmap points n = (points ≤ 16777216) × Covers bitmap points × (n ≡ (marks_in bitmap).rank points)
