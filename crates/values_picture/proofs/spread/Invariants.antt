-- `values_picture::spread` meets its contract. The invariant: the points before `i` have their greys, and the greys from `next` on lie where they lay, of which the
-- first is that of the next point that is present.
use Prim.Native.Nat.{◌-◌}
use lib.ListN.{length}
use Rattle.values_points.specs.Written.{marks_in}
use Rattle.values_picture.proofs.Laws.{Spread}
use Rattle.values_picture.proofs.spread.Given as goal

abbrev pub invariant-loop-i : goal.invariant-loop-i
invariant-loop-i l = Spread (marks_in l.bitmap) l.initial.greys l.from l.next l.i l.greys

abbrev pub decreases-loop-i : goal.decreases-loop-i
decreases-loop-i l = length l.initial.greys - l.i
