-- RULES, "Numbers and places" and "Section 7": a packed run is one row of bits, counted from 0, in which every octet gives its top bit
-- first; the numbers in it lie one behind the other.
use Rattle.std.specs.Prelude.{ℕ, zero, suc, ◌+◌, ◌-◌, ◌*◌, ◌/◌, ◌%◌, ◌^◌, List}
use Rattle.octets.specs.Numbers.{octet_at}

-- Bit i of a run of octets, which is 0 past the run's end.
unfoldable pub bit_at : List ℕ → ℕ → ℕ
bit_at run i = octet_at run (i / 8) / 2 ^ (7 - i % 8) % 2

-- The number whose bits are the b bits from bit `at` on, the first of them counting most.
unfoldable pub bits_at : List ℕ → ℕ → ℕ → ℕ
bits_at run at zero = 0
bits_at run at (suc b) = bits_at run at b * 2 + bit_at run (at + b)

-- The octets that so many bits take: the last may have bits to spare.
abbrev pub octets_of : ℕ → ℕ
octets_of bits = (bits + 7) / 8
