-- `values_points::write_each` meets its contract: before the first integer nothing is written, and the next one is one more behind those before it.
use mathlib.Core.Path.{◌≡◌, ap}
use Prim.Native.Nat.{ℕ, ◌+◌, ◌<◌}
use native.Mathlib.Omega.{arith}
use Rattle.values_points.specs.Written.{marks_in, runs, integers_in}
use Rattle.values_points.proofs.Marks.{ranked}
use Rattle.values_points.proofs.Laws.{written_none, written_then}
use Rattle.values_points.proofs.write_each.Goals as goal

pub loop-x-init : goal.loop-x-init
loop-x-init c =
    let a = c.args in
    written_none (marks_in a.bitmap.now) (ranked a.bitmap.now).more a.packing (integers_in a.block.now) a.point (runs a.values.now a.presence.now) c.requires.points_left.0

pub loop-x-preserved : goal.loop-x-preserved
loop-x-preserved c =
    let l = c.loop-x in
    let run = c.args.bitmap.now in
    let x : ℕ → ℕ = integers_in c.args.block.now in
    let given : (j : ℕ) → j < 1 → x l.x-index ≡ x (l.x-index + j) = λ j h. let only : l.x-index ≡ l.x-index + j = omega arith in ap x only in
    written_then (marks_in run) (ranked run).more c.args.packing x (λ _. x l.x-index) l.invariant c.write_next-next.ensures given
