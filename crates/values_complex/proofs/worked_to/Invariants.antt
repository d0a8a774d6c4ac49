-- `values_complex::worked_to` meets its contract. The invariant: so many of the wanted integers are left, `latest` are the last two that are kept, and
-- `start` is where group i starts, as long as some are left.
use Prim.Native.Nat.{◌-◌}
use Rattle.values_complex.proofs.Turns.{Working}
use Rattle.values_complex.proofs.worked_to.Given as goal

abbrev pub invariant-loop-left : goal.invariant-loop-left
invariant-loop-left l = Working l.grouped.section.now l.grouped.groups l.wanted l.left l.i l.latest l.start

abbrev pub decreases-loop-left : goal.decreases-loop-left
decreases-loop-left l = l.grouped.groups.grouping.groups - l.i
