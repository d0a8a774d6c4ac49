-- `values_complex::write_group` meets its contract. The invariant: the first `done` integers of the group are written to the next points that are
-- present, `latest` has the last two of them, and the block has its length.
use mathlib.Core.Path.{◌≡◌}
use Prim.Native.Nat.{◌-◌, ◌≤◌}
use lib.ListN.{length}
use Rattle.values_points.specs.Written.{marks_in, runs, Written}
use Rattle.values_group.specs.Group.{GroupGoes, integers_of}
use Rattle.values_complex.proofs.write_group.Given as goal

abbrev pub invariant-loop-done : goal.invariant-loop-done
invariant-loop-done l =
    (l.done ≤ l.group.count) × (length l.block ≡ 56) × (l.point ≤ length l.initial.values) × (length l.values ≡ length l.initial.values) × (length l.presence ≡ length l.initial.presence)
    × GroupGoes l.section l.group l.initial.latest l.done l.latest × Written (marks_in l.bitmap) l.packing (integers_of l.section l.group l.initial.latest) l.done l.initial.point l.point (runs l.initial.values l.initial.presence) (runs l.values l.presence)

abbrev pub decreases-loop-done : goal.decreases-loop-done
decreases-loop-done l = l.group.count - l.done
