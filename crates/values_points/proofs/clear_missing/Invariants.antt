-- `values_points::clear_missing` meets its contract. The invariant: the points from `point` up to `i` are missing, and so written.
use Prim.Native.Nat.{◌-◌}
use lib.ListN.{length}
use Rattle.values_points.specs.Written.{marks_in, runs, Missing}
use Rattle.values_points.proofs.clear_missing.Given as goal

abbrev pub invariant-loop-i : goal.invariant-loop-i
invariant-loop-i l = Missing (marks_in l.bitmap) l.point l.i (runs l.initial.values l.initial.presence) (runs l.values l.presence)

abbrev pub decreases-loop-i : goal.decreases-loop-i
decreases-loop-i l = length l.initial.values - l.i
