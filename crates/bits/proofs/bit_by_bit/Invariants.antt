-- `bits::bit_by_bit` meets its contract. The invariant: `number` is what the first `taken` bits hold.
use mathlib.Core.Path.{◌≡◌}
use Rattle.bits.specs.Bits.{bits_at}
use Rattle.bits.proofs.bit_by_bit.Given as goal

abbrev pub invariant-loop-taken : goal.invariant-loop-taken
invariant-loop-taken l = l.number ≡ bits_at l.run l.from l.taken
