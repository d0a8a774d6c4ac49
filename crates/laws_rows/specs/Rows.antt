-- RULES, "From X to a double": rows of elements that are known by their numbers, and runs that are lent whole to have a stretch of them filled. Over the
-- elements' type.
use Rattle.std.specs.Prelude.{ℕ, zero, suc, ◌+◌, ◌≡◌, List, [], ◌∷◌, ◌++◌, length, take, drop, set}

-- The row of the first n elements.
unfoldable pub row : {A : Type 0} → (ℕ → A) → ℕ → List A
row f zero = []
row f (suc n) = row f n ++ (f n ∷ [])

-- A run with these elements from place `at` on. What lies before them and behind them stays as it is.
abbrev pub laid : {A : Type 0} → List A → ℕ → List A → List A
laid run at elements = take at run ++ elements ++ drop (at + length elements) run

-- What a function that puts elements does to a run from place `at` on, and that it answers the place behind them.
abbrev pub Puts : {A : Type 0} → List A → ℕ → List A → List A → ℕ → Type 0
Puts before at elements after behind = (after ≡ laid before at elements) × (behind ≡ at + length elements)

-- A run of which the n elements from place `at` on were set, one after the other, each by its place.
unfoldable pub filled : {A : Type 0} → (ℕ → A) → ℕ → ℕ → List A → List A
filled f at zero run = run
filled f at (suc n) run = set (filled f at n run) (at + n) (f (at + n))
