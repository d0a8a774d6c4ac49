-- `tests_ask::read_full` is safe and ends: each turn reads an octet at least, and the run has room for no more than its length.
use Rattle.std.proofs.Common.{◌-◌, ◌≤◌, length}
use Rattle.tests_ask.proofs.read_full.Given as goal

abbrev pub invariant-loop-got : goal.invariant-loop-got
invariant-loop-got g l = l.got ≤ length l.run

abbrev pub decreases-loop-got : goal.decreases-loop-got
decreases-loop-got g l = length l.run - l.got
