-- RULES, "Numbers and places": three ways to count. An octet of a section has a number from 1 on; a bit of a run and a place in the
-- file are counted from 0.
-- In the code each kind of place has a type of its own; here each is the number that it holds.
use Rattle.std.specs.Prelude.{ℕ, ◌+◌, ◌-◌, ◌*◌, ◌/◌}
use Rattle.octets.specs.declared.FilePlace.{FilePlace}

-- A number of octets from the file's start, as a place in the file.
abbrev pub at : ℕ → FilePlace
at p = record { 0 = p }

-- The file place of octet n of a section that starts at s: octet 1 stands at s itself.
abbrev pub place_of : ℕ → ℕ → ℕ
place_of s n = s + (n - 1)

-- The bit place of the top bit of octet n of a run: octet 1 has the bits 0 to 7.
abbrev pub first_bit : ℕ → ℕ
first_bit n = (n - 1) * 8

-- The number of the octet of a run that has bit b.
abbrev pub octet_holding : ℕ → ℕ
octet_holding b = b / 8 + 1
