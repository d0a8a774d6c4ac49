-- RULES, "Tiling a file", steps a to e once more, told by conditions: each outcome with the first condition that holds. The proofs
-- show that it says what `header_at` computes.
use Rattle.std.specs.Prelude.{ℕ, ◌+◌, ◌-◌, ◌≤◌, ◌<◌, ◌≡◌, List, length, Result, Ok, Err}
use Rattle.octets.specs.declared.FilePlace.{FilePlace}
use Rattle.octets.specs.Places.{at}
use Rattle.refusals.specs.declared.Why.{Why}
use Rattle.tiling.specs.Tiling.{grib, sevens, opening_at, edition_at, stated_at, closing_at}

-- Step a is passed at p: section 0's 16 octets are there. Then step b: they say "GRIB" and edition 2.
pub record Opens (file : List ℕ) (p : ℕ) : Type 0 where
  pub there : p + 16 ≤ length file
  pub mark : opening_at file p ≡ grib
  pub edition : edition_at file p ≡ 2

-- Then steps c and d: the stated length is 20 or more, and that many octets are there.
pub record Holds (file : List ℕ) (p : ℕ) : Type 0 where
  pub opens : Opens file p
  pub least : 20 ≤ stated_at file p
  pub there : p + stated_at file p ≤ length file

-- What steps a to e say of the message at p.
pub data Heads (file : List ℕ) (p : ℕ) : Result FilePlace Why → Type 0 where
  few : length file < p + 16 → Heads file p (Err Why.Cut)
  strange : p + 16 ≤ length file → (Opens file p → ⊥) → Heads file p (Err Why.NotGrib2)
  short : Opens file p → stated_at file p < 20 → Heads file p (Err Why.BadLength)
  long : Opens file p → 20 ≤ stated_at file p → length file < p + stated_at file p → Heads file p (Err Why.Cut)
  endless : Holds file p → (closing_at file p ≡ sevens → ⊥) → Heads file p (Err Why.NoEnd)
  headed : Holds file p → closing_at file p ≡ sevens → Heads file p (Ok (at (p + (stated_at file p - 4))))
