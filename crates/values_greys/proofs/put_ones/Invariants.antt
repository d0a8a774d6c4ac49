-- `values_greys::put_ones` meets its contract. The invariant: the first `i` octets and as many of the last ones are 1.
use Rattle.values_greys.proofs.Laws.{Ends}
use Rattle.values_greys.proofs.put_ones.Given as goal

abbrev pub invariant-loop-i : goal.invariant-loop-i
invariant-loop-i l = Ends l.all l.i l.greys
