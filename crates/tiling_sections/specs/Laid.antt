-- RULES, "Tiling a file": what is known of where a field lies: section 0 of its message is in the file, each of its sections lies there whole, and so
-- does the section 6 that has the bitmap in force.
use Rattle.std.specs.Prelude.{ℕ, ◌+◌, ◌≤◌, ◌≡◌, List, length, Option, Some}
use Rattle.octets.specs.declared.FilePlace.{FilePlace}
use Rattle.section.specs.Sections.{Lies}
use Rattle.tiling_sections.specs.declared.Located.{Located}

-- Where a bitmap is in force, the section that has it lies in the file.
abbrev pub Stored : List ℕ → Option FilePlace → Type 0
Stored file bitmap = (p : FilePlace) → bitmap ≡ Some p → Lies file p.0

-- What is known of a field that lies at l.
pub record Laid (file : List ℕ) (l : Located) : Type 0 where
  pub zero : l.starts.zero.0 + 16 ≤ length file
  pub one : Lies file l.starts.one.0
  pub three : Lies file l.starts.three.0
  pub four : Lies file l.starts.four.0
  pub five : Lies file l.starts.five.0
  pub six : Lies file l.starts.six.0
  pub seven : Lies file l.starts.seven.0
  pub stored : Stored file l.bitmap
