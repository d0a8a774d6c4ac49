-- RULES, "From X to a double": what is written for the points of a field. Of each point it is known whether it is present (1) or missing
-- (0), and how many points before it are present: that many integers are packed before its own.
use Rattle.std.specs.Prelude.{ℕ, zero, suc, false, pos, Float}
use Rattle.std.specs.Float.{fin}
use Rattle.doubles.specs.declared.Packing.{Packing}
use Rattle.doubles.specs.Doubles.{rebuilt}

-- A point that is present has the double of its integer, and one that is missing has +0.
abbrev pub point_value : Packing → ℕ → ℕ → Float
point_value p zero x = fin false 0 (pos 0)
point_value p (suc mark) x = rebuilt p x

-- The double of point i, where the integer numbered m is `x m`.
abbrev pub double_at : Packing → (ℕ → ℕ) → (ℕ → ℕ) → (ℕ → ℕ) → ℕ → Float
double_at p x mark rank i = point_value p (mark i) (x (rank i))
