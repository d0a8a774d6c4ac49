-- RULES, "Section 7", simple packing: the numbers that are put into a block.
use Rattle.std.specs.Prelude.{ℕ, ◌+◌, ◌*◌, ◌≤◌, ◌≡◌, cond, List, ltb, length}
use Rattle.octets.specs.Places.{first_bit}
use Rattle.laws_rows.specs.Rows.{row}
use Rattle.bits.specs.Bits.{bits_at}
use Rattle.bits.specs.Fours.{fours_in, Foured}
use Rattle.values_integers.specs.Integers.{simple_integer}

-- Number k of so many bits each, from bit `first` on.
abbrev pub numbers_from : List ℕ → (bits first : ℕ) → ℕ → ℕ
numbers_from run bits first k = bits_at run (first + k * bits) bits

-- The integers of a field behind its first ones.
abbrev pub integers_behind : List ℕ → (bits done : ℕ) → ℕ → ℕ
integers_behind run bits done k = simple_integer run bits (done + k)

-- Where numbers have no bits, the block for them has zeros already.
abbrev pub ZerosWithoutBits : ℕ → List ℕ → Type 0
ZerosWithoutBits bits block = bits ≡ 0 → block ≡ row (λ _. 0) (length block)

-- How many fours of a field's n integers are read four at a time, each from one window: where four of them fit a window of 64 bits wherever in an octet they start.
abbrev pub window_fours : List ℕ → (bits n : ℕ) → ℕ
window_fours run bits n = cond (ltb 14 bits) 0 (fours_in (length run) (first_bit 6) bits n)

-- So many fours can be read so.
abbrev pub Windowed : List ℕ → (bits n fours : ℕ) → Type 0
Windowed run bits n fours = (1 ≤ fours → bits ≤ 14) × Foured (length run) (first_bit 6) bits n fours
