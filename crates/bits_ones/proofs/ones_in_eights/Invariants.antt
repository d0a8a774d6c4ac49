-- `bits_ones::ones_in_eights` meets its contract. The invariant: the tally has counted the bits that are set in the first `i` eights of words.
use mathlib.Core.Path.{◌≡◌}
use Prim.Native.Nat.{◌*◌}
use Rattle.bits_ones.specs.Ones.{ones_before}
use Rattle.bits_ones.specs.Counted.{counted}
use Rattle.bits_ones.proofs.ones_in_eights.Given as goal

abbrev pub invariant-loop-i : goal.invariant-loop-i
invariant-loop-i l = counted l.tally ≡ ones_before l.run (512 * l.i)
