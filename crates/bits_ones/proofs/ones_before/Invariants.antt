-- `bits_ones::ones_before` meets its contract. The invariant: `ones` is how many of the first `i` bits are set, from the last whole word on.
use mathlib.Core.Path.{◌≡◌}
use Rattle.bits_ones.specs.Ones.{ones_before}
use Rattle.bits_ones.proofs.ones_before.Given as goal

abbrev pub invariant-loop-i : goal.invariant-loop-i
invariant-loop-i l = l.ones ≡ ones_before l.run l.i
