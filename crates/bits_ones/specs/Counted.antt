-- RULES, "Section 6": how many bits are counted by words whose bits count once, twice or more. It is a matter of speed alone: the bits that are set are
-- the same.
use Rattle.std.specs.Prelude.{ℕ, ◌+◌, ◌*◌}
use Rattle.std.specs.Int.Count.{ones}
use Rattle.bits_ones.specs.declared.Added.{Added}
use Rattle.bits_ones.specs.declared.Tally.{Tally}

-- Of words that were added bit by bit, a bit of the sum counts once, and one of the carry twice.
abbrev pub added_ones : Added → ℕ
added_ones r = ones r.sum + 2 * ones r.carry

-- How many bits a tally has counted.
abbrev pub counted : Tally → ℕ
counted t = ones t.ones + 2 * ones t.twos + 4 * ones t.fours + 8 * t.eights
