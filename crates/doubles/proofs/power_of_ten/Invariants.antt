-- `doubles::power_of_ten` meets its contract. The invariant: after `counter` products the power is 10 ^ counter.
use mathlib.Core.Path.{◌≡◌}
use Prim.Native.Nat.{◌-◌, ◌≤◌}
use Rattle.doubles.specs.Doubles.{power_of_ten}
use Rattle.doubles.proofs.power_of_ten.Given as goal

abbrev pub invariant-loop : goal.invariant-loop
invariant-loop l = (l.power ≡ power_of_ten l.counter) × (l.counter ≤ l.n)

abbrev pub decreases-loop : goal.decreases-loop
decreases-loop l = l.n - l.counter
