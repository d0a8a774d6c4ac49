-- RULES, "Section 7": how many numbers of a run are read four at a time, from windows of eight octets. It is a matter of speed alone: the numbers are the
-- same.
use Rattle.std.specs.Prelude.{ℕ, ◌+◌, ◌-◌, ◌*◌, ◌/◌, ◌≤◌, Bool, cond, List, map, ltb, leb}
use Rattle.std.specs.List.{range_with_len}
use Rattle.bits.specs.Bits.{bits_at}

-- Behind so many fours of numbers of b bits, which lie one behind the other from bit `from` on, eight octets are left.
abbrev pub leaves_eight : (octets from b fours : ℕ) → Bool
leaves_eight octets from b fours = leb ((from + 4 * fours * b) / 8 + 8) octets

-- How many fours of `count` numbers are read four at a time: those of all numbers, where they leave eight octets, else those of all but the last 64,
-- where these do, and else none. Two numbers of at most 28 bits fit a window of 64 wherever in an octet they start; wider ones are read one by one.
unfoldable pub fours_in : (octets from b count : ℕ) → ℕ
fours_in octets from b count =
    cond (ltb 28 b) 0
    (cond (leaves_eight octets from b (count / 4)) (count / 4)
    (cond (leaves_eight octets from b ((count - 64) / 4)) ((count - 64) / 4) 0))

-- So many fours can be read four at a time: they are among the numbers asked for, two numbers fit a window, and eight octets are left behind each.
pub record Foured (octets from b count fours : ℕ) : Type 0 where
  pub few : 4 * fours ≤ count
  pub narrow : 1 ≤ fours → b ≤ 28
  pub inside : 1 ≤ fours → (from + 4 * fours * b) / 8 + 8 ≤ octets

-- K numbers of b bits, one behind the other from bit `at` on.
abbrev pub numbers_at : List ℕ → (at b k : ℕ) → List ℕ
numbers_at run at b k = map (λ i. bits_at run (at + i * b) b) (range_with_len 0 k)
