-- RULES, "Tiling a file": what is known of an answer of find: where field k is among the fields, its sections lie in the file, which is not too large;
-- and a refusal names a place within the largest file that is taken.
use Rattle.std.specs.Prelude.{ℕ, ◌≤◌, ◌<◌, List, length, Result, Ok, Err}
use Rattle.tiling_sections.specs.Laid.{Laid}
use Rattle.tiling.specs.Tiling.{largest}
use Rattle.tiling.specs.declared.Tiled.{Tiled}
use Rattle.refusals.specs.declared.Refusal.{Refusal}

abbrev pub Lying : List ℕ → ℕ → Result Tiled Refusal → Type 0
Lying file k (Ok tiled) = (length file ≤ largest) × (k < tiled.fields → Laid file tiled.hit)
Lying file k (Err r) = r.place.0 ≤ largest
