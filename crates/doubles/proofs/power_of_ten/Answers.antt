-- `doubles::power_of_ten` meets its contract. The invariant: after `counter` products the power is 10 ^ counter.
use mathlib.Core.Path.{ap, ◌∙◌}
use native.Mathlib.Omega.{arith}
use borrow.Author.Rules.{rules}
use lib.Ieee.{Float, binary64, mul, of_bits}
use Rattle.doubles.specs.Doubles.{power_of_ten}
use Rattle.doubles.proofs.Powers.{ten_more}
use Rattle.doubles.proofs.power_of_ten.Goals as goal

pub loop-preserved : goal.loop-preserved
unfolding of_bits
loop-preserved c =
    let counter = c.loop.counter in
    (ap (λ (power : Float). mul binary64 power (power_of_ten 1)) c.loop.invariant.0 ∙ ten_more counter (omega arith), search rules)
