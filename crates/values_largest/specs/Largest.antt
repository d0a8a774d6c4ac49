-- RULES, "The picture": the largest integer X of a field.
use Rattle.std.specs.Prelude.{ℕ, zero, suc, max, cond, List, ℤ, nat_abs, Option, Some, None}
use Rattle.values_group.specs.declared.Group.{Group}
use Rattle.values_group.specs.declared.Latest.{Latest}
use Rattle.values_group.specs.Group.{worked_by, integers_of}
use Rattle.values_integers.specs.Integers.{are_in_range}
use Rattle.values_largest.specs.declared.Seen.{Seen}

-- The largest of the first n integers, and of a number that was found before them.
unfoldable pub largest_from : ℕ → (ℕ → ℕ) → ℕ → ℕ
largest_from found x zero = found
largest_from found x (suc n) = max (largest_from found x n) (x n)

-- The largest of the first n integers, or 0 where there is none.
abbrev pub largest_of : (ℕ → ℕ) → ℕ → ℕ
largest_of x n = largest_from 0 x n

-- The largest of the n integers of a field, where none is out of its range.
abbrev pub largest_in : (ℕ → ℤ) → ℕ → Option ℕ
largest_in x n = cond (are_in_range x n) (Some (largest_of (λ m. nat_abs (x m)) n)) None

-- What is kept of integers, with the largest of them.
abbrev pub with_largest : Option Latest → ℕ → Option Seen
with_largest (Some latest) largest = Some (record { latest = latest; largest = largest })
with_largest None largest = None

-- What is kept behind the first n integers of a group, and the largest of them and of those before the group.
abbrev pub seen_by : List ℕ → Group → Seen → ℕ → Option Seen
seen_by run g seen n = with_largest (worked_by run g (Some seen.latest) n) (largest_from seen.largest (integers_of run g seen.latest) n)
