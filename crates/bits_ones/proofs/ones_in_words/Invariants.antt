-- `bits_ones::ones_in_words` meets its contract. The invariant: `ones` is how many bits are set between word `from` and word `i`.
use mathlib.Core.Path.{◌≡◌}
use Prim.Native.Nat.{◌+◌, ◌*◌}
use Rattle.bits_ones.specs.Ones.{ones_before}
use Rattle.bits_ones.proofs.ones_in_words.Given as goal

abbrev pub invariant-loop-i : goal.invariant-loop-i
invariant-loop-i l = ones_before l.run (64 * l.from) + l.ones ≡ ones_before l.run (64 * l.i)
