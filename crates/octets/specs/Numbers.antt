-- RULES, "Numbers and places": the number that octets hold, the first counting most, and the sign and size that such a number holds.
use Rattle.std.specs.Prelude.{ℕ, zero, suc, ◌+◌, ◌-◌, ◌*◌, ◌%◌, ◌^◌, Bool, true, false, List, ltb, ℤ, pos, neg_ℤ, get_or}
use Rattle.octets.specs.declared.Signed.{Signed}

-- The octet at a place, from 0.
abbrev pub octet_at : List ℕ → ℕ → ℕ
octet_at xs p = get_or xs p 0

-- The number in the n octets from place p on: each octet counts 256 times the next.
unfoldable pub number_at : List ℕ → ℕ → ℕ → ℕ
number_at xs p zero = 0
number_at xs p (suc n) = number_at xs p n * 256 + octet_at xs (p + n)

-- What the top bit of n octets counts.
abbrev pub top_bit : ℕ → ℕ
top_bit n = 2 ^ (8 * n - 1)

-- The sign and the size of the number v of n octets. Past what the top bit counts, that bit is set and the rest is not zero:
-- so a set sign with size zero is 0.
abbrev pub signed_of : ℕ → ℕ → Signed
signed_of n v = record { negative = ltb (top_bit n) v; size = v % top_bit n }

-- The whole number that a sign and a size are.
abbrev pub whole_of : Bool → ℕ → ℤ
whole_of false size = pos size
whole_of true size = neg_ℤ (pos size)

abbrev pub whole : Signed → ℤ
whole s = whole_of s.negative s.size
