-- `bits::read_several` meets its contract. The invariant: what stands below `i` are the numbers that the definition names.
use Rattle.std.proofs.Common.{◌≡◌, ◌<◌, ◌+◌, ◌*◌, length, ℕ}
use Rattle.std.specs.Prelude.{slice_index}
use Rattle.bits.specs.Bits.{bits_at}
use Rattle.bits.proofs.read_several.Given as goal

abbrev pub invariant-loop-i : goal.invariant-loop-i
invariant-loop-i g l =
    (length l.numbers ≡ g.row.K) × ((k : ℕ) → k < l.i → slice_index l.numbers k ≡ bits_at l.run (l.fn.at.0 + k * l.b) l.b)
