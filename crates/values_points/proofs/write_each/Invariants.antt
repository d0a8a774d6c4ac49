-- `values_points::write_each` meets its contract. The invariant: the integers of the block that were passed are written, to the points up to `next`.
use Rattle.values_points.specs.Written.{marks_in, runs, Written, integers_in}
use Rattle.values_points.proofs.write_each.Given as goal

abbrev pub invariant-loop-x : goal.invariant-loop-x
invariant-loop-x l =
    Written (marks_in l.bitmap) l.packing (integers_in l.block) l.x-index l.point l.next (runs l.initial.values l.initial.presence) (runs l.values l.presence)
