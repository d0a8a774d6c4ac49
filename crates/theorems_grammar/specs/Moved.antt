-- RULES, "Tiling a file": what it means that a message stands octet for octet at another place, perhaps of another file.
use Rattle.std.specs.Prelude.{ℕ, ◌+◌, ◌-◌, ◌≤◌, ◌<◌, ◌≡◌, List, Option, Some, None}
use Rattle.octets.specs.declared.FilePlace.{FilePlace}
use Rattle.octets.specs.Numbers.{octet_at}
use Rattle.octets.specs.Places.{at}
use Rattle.tiling_sections.specs.declared.Located.{Located}
use Rattle.tiling_sections.specs.Walk.{section_start, starts_by}

-- Where a place lies that is moved with the message from a to c.
abbrev pub moved : ℕ → ℕ → ℕ → ℕ
moved a c p = p - a + c

-- The octets of one file from a up to b stand in the other from c on.
abbrev pub Copied : List ℕ → ℕ → ℕ → List ℕ → ℕ → Type 0
Copied file a b other c = (p : ℕ) → a ≤ p → p < b → octet_at other (moved a c p) ≡ octet_at file p

-- Where a field lies, moved so.
module _ (a c : ℕ) where
  abbrev pub bitmap_moved : Option FilePlace → Option FilePlace
  bitmap_moved None = None
  bitmap_moved (Some p) = Some (at (moved a c p.0))

  abbrev pub located_moved : Located → Located
  located_moved l = record { starts = starts_by (λ n. moved a c (section_start l.starts n)); bitmap = bitmap_moved l.bitmap }
