-- RULES, "Tiling a file" and "Numbers and places": a section tells its own length and number, and its octets are counted from 1.
use Rattle.std.specs.Prelude.{ℕ, ◌+◌, ◌-◌, ◌≤◌, List, length, take, drop}
use Rattle.octets.specs.declared.Signed.{Signed}
use Rattle.octets.specs.Places.{place_of}
use Rattle.octets.specs.Numbers.{octet_at, number_at, signed_of}

-- The octet numbered n of the section at s.
abbrev pub octet : List ℕ → ℕ → ℕ → ℕ
octet file s n = octet_at file (place_of s n)

-- The number that the octets from a to b of the section at s hold, without a sign and with one.
abbrev pub held : List ℕ → ℕ → ℕ → ℕ → ℕ
held file s a b = number_at file (place_of s a) (b + 1 - a)

abbrev pub held_signed : List ℕ → ℕ → ℕ → ℕ → Signed
held_signed file s a b = signed_of (b + 1 - a) (held file s a b)

-- The length and the number of the section at p: octets 1-4, and octet 5.
abbrev pub length_at : List ℕ → ℕ → ℕ
length_at file p = number_at file (place_of p 1) 4

abbrev pub kind_at : List ℕ → ℕ → ℕ
kind_at file p = octet_at file (place_of p 5)

-- The section at s lies in the file: its head does, and all of the length that it tells.
pub record Lies (file : List ℕ) (s : ℕ) : Type 0 where
  pub least : 5 ≤ length_at file s
  pub room : s + length_at file s ≤ length file

-- The octets of the section at s, and of no other.
abbrev pub octets_in : List ℕ → ℕ → List ℕ
octets_in file s = take (length_at file s) (drop s file)
