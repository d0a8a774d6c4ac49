-- RULES, "Listing": text as octets in a run that is lent whole: what is put, and where. What lies before and behind it stays as it is.
use Rattle.std.specs.Prelude.{ℕ, zero, suc, ◌+◌, ◌-◌, ◌*◌, ◌/◌, cond, List, [], ◌∷◌, ◌++◌, ltb}
use Prim.Native.Char.{code}
use Prim.Native.String.{String, [] as no_text, ◌∷◌ as ◌and_then◌}
use Rattle.calendar.specs.Calendar.{digit}

-- The octets of a text: the codes of its characters.
abbrev pub ascii : String → List ℕ
ascii no_text = []
ascii (c and_then s) = code c ∷ ascii s

-- The last decimal digit of a number.
abbrev pub last_digit : ℕ → List ℕ
last_digit n = digit n ∷ []

-- The decimal digits of a number that has at most so many: those of its tenth, and then the last one. None in front is 0, but for the number 0.
unfoldable pub spelt : ℕ → ℕ → List ℕ
spelt zero n = []
spelt (suc most) n = cond (ltb n 10) (digit n ∷ []) (spelt most (n / 10) ++ (digit n ∷ []))

-- A number of 64 bits has at most 20 digits.
abbrev pub decimal : ℕ → List ℕ
decimal n = spelt 20 n

-- The number that decimal digits are read as, the first digit first, behind a number that was read before them.
unfoldable pub read_behind : ℕ → List ℕ → ℕ
read_behind number [] = number
read_behind number (d ∷ rest) = read_behind (10 * number + (d - 48)) rest

-- Digits read from the first one on.
abbrev pub read_back : List ℕ → ℕ
read_back digits = read_behind 0 digits
