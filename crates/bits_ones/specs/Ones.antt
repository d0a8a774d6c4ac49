-- RULES, "Section 6": how many bits of a run of octets are set, as those of a bitmap are where points are present.
use Rattle.std.specs.Prelude.{ℕ, zero, suc, ◌+◌, List}
use Rattle.bits.specs.Bits.{bit_at}

-- How many of the first n bits are set, the top bit of an octet first.
unfoldable pub ones_before : List ℕ → ℕ → ℕ
ones_before run zero = 0
ones_before run (suc n) = ones_before run n + bit_at run n
