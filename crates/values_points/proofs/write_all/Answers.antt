-- `values_points::write_all` meets its contract: before the first integer nothing is written, and the next one goes to the next point.
use mathlib.Core.Path.{refl}
use native.Mathlib.Nat.{add-zero, add_assoc}
use native.Mathlib.Omega.{arith}
use Rattle.values_points.specs.Written.{every_point, runs, integers_in}
use Rattle.values_points.proofs.Laws.{written_none, written_present}
use Rattle.values_points.proofs.write_all.Goals as goal

pub loop-i-init : goal.loop-i-init
loop-i-init c =
    let a = c.args in
    rw (add-zero a.point) (written_none every_point (λ i. refl) a.packing (integers_in a.block.now) a.point (runs a.values.now a.presence.now) (omega arith))

pub loop-i-preserved : goal.loop-i-preserved
loop-i-preserved c =
    let a = c.args in
    rw
    (c.rebuild.ensures, ← add_assoc a.point c.loop-i.i 1)
    (written_present every_point (λ i. refl) a.packing (integers_in a.block.now) c.loop-i.invariant.past (omega arith) refl refl)
