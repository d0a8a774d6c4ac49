-- `values_points::write_all` meets its contract. The invariant: the first `i` integers of the block are written, to the points up to `point + i`.
use Prim.Native.Nat.{◌+◌}
use Rattle.values_points.specs.Written.{every_point, runs, Written, integers_in}
use Rattle.values_points.proofs.write_all.Given as goal

abbrev pub invariant-loop-i : goal.invariant-loop-i
invariant-loop-i l = Written every_point l.own (integers_in l.block) l.i l.point (l.point + l.i) (runs l.initial.values l.initial.presence) (runs l.values l.presence)
