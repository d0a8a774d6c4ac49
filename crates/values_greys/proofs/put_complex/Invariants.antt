-- `values_greys::put_complex` meets its contract. The invariant: i groups are passed, in the run that has the first two greys.
use Rattle.values_greys.proofs.Passed.{Passed}
use Rattle.values_greys.proofs.put_complex.Given as goal

abbrev pub invariant-loop-i : goal.invariant-loop-i
invariant-loop-i l = Passed l.grouped.section.now l.grouped.groups l.fn.scale l.initial.greys l.i l.latest l.start l.done l.greys
