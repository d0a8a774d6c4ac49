-- RULES, "Tiling a file" and "Refusals by number": the refusals of check in their order, each with its place and the first condition that
-- holds. What comes first in the file is refused first.
use Rattle.std.specs.Prelude.{ℕ, ◌+◌, ◌≤◌, ◌<◌, ◌≡◌, true, List, length, Ok, Err}
use Rattle.octets.specs.Places.{at}
use Rattle.refusals.specs.declared.Refusal.{Refusal}
use Rattle.refusals.specs.declared.Why.{Why}
use Rattle.refusals.specs.Refusals.{refusal}
use Rattle.tiling_sections.specs.declared.Located.{Located}
use Rattle.tiling_sections.specs.Walk.{follows}
use Rattle.tiling_sections.specs.Stands.{Stands}
use Rattle.tiling.specs.Tiling.{largest}
use Rattle.tiling.specs.Heads.{Heads}
use Rattle.theorems_grammar.specs.Grammar.{Section, Message}

-- Messages tile the file from its start up to p.
pub data Before (file : List ℕ) : ℕ → Type 0 where
  start : Before file 0
  after : {a b : ℕ} {fs : List Located} → Before file a → Message file a b fs → Before file b

-- Sections that are allowed tile a message from s up to p, which is not past e; the last of them is numbered n, or 0 where there is none.
pub data Passed (file : List ℕ) (s e : ℕ) : ℕ → ℕ → Type 0 where
  start : Passed file s e s 0
  after : {a b n m : ℕ} → Passed file s e a n → Section file m a b → b ≤ e → follows n m ≡ true → Passed file s e b m

-- The first fault of the message at p: of steps a to e, whose place is p, or of the first section that step f refuses, whose place is where that
-- stands. At the end of the sections, "7777" stands there.
pub data Faulty (file : List ℕ) (p : ℕ) : Refusal → Type 0 where
  heading : {why : Why} → Heads file p (Err why) → Faulty file p (refusal why p)
  section : {e q n : ℕ} {why : Why} → Heads file p (Ok (at e)) → Passed file (p + 16) e q n → Stands file q e n (Err why) → Faulty file p (refusal why q)

-- Refusals 1 and 2 come first, then the first message that is not one.
pub data Refused (file : List ℕ) : Refusal → Type 0 where
  too_long : largest < length file → Refused file (refusal Why.TooLong 0)
  empty : length file ≡ 0 → Refused file (refusal Why.Empty 0)
  message : {p : ℕ} {r : Refusal} → 1 ≤ length file → length file ≤ largest → Before file p → p < length file → Faulty file p r → Refused file r
