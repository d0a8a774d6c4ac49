-- RULES, "Tiling a file", step f once more, told by conditions: each outcome with the first condition that holds. The proofs show
-- that it says what `section_at` computes.
use Rattle.std.specs.Prelude.{ℕ, ◌+◌, ◌≤◌, ◌<◌, ◌≡◌, true, false, List, Option, Some, None, Result, Ok, Err}
use Rattle.octets.specs.Places.{at}
use Rattle.section.specs.Sections.{length_at, kind_at}
use Rattle.refusals.specs.declared.Why.{Why}
use Rattle.tiling_sections.specs.Walk.{follows, standing}
use Rattle.tiling_sections.specs.declared.Standing.{Standing}

-- A section stands at p: there is room for its length, which is 5 or more, before e.
pub record Fits (file : List ℕ) (p e : ℕ) : Type 0 where
  pub least : 5 ≤ length_at file p
  pub room : p + length_at file p ≤ e

-- What stands at p, where the sections end at e, behind a section numbered `after`.
pub data Stands (file : List ℕ) (p e after : ℕ) : Result (Option Standing) Why → Type 0 where
  ends : e ≤ p → after ≡ 7 → Stands file p e after (Ok None)
  unfinished : e ≤ p → (after ≡ 7 → ⊥) → Stands file p e after (Err Why.OutOfPlace)
  misfit : p < e → (Fits file p e → ⊥) → Stands file p e after (Err Why.BadLength)
  strange : Fits file p e → follows after (kind_at file p) ≡ false → Stands file p e after (Err Why.OutOfPlace)
  next : Fits file p e → follows after (kind_at file p) ≡ true → Stands file p e after (Ok (Some (standing (kind_at file p) (at (p + length_at file p)))))
