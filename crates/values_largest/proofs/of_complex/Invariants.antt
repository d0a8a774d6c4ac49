-- `values_largest::of_complex` meets its contract. The invariant: i groups are passed, `seen` has the last two integers, which are kept, and the largest of all so
-- far, and `start` is where group i starts.
use Rattle.values_largest.proofs.Passed.{Gathered}
use Rattle.values_largest.proofs.of_complex.Given as goal

abbrev pub invariant-loop-i : goal.invariant-loop-i
invariant-loop-i l = Gathered l.grouped.section.now l.grouped.groups l.i l.seen l.start
