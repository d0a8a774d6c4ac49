-- `section_7::plan_of` meets its contract: the loop keeps the sums over the groups that it has passed, and a group that is not sound, or one
-- that has too many values, leaves no plan.
use Rattle.section_7.proofs.Planned.{Planned}
use Rattle.section_7.proofs.plan_of.Given as goal

abbrev pub invariant-loop-i : goal.invariant-loop-i
invariant-loop-i l = Planned l.run l.layout l.grouping l.n l.i l.values l.bits
