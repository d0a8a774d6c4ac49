-- `values_greys::put_ones` meets its contract.
use native.Mathlib.Omega.{arith}
use Rattle.values_greys.proofs.Laws.{ends_all}
use Rattle.values_greys.proofs.put_ones.Goals as goal

pub returns : goal.returns
returns c = ends_all c.loop-i.invariant (omega arith)
