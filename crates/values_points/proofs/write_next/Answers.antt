-- `values_points::write_next` meets its contract: the missing points take no integer, and the one found is present and before the end.
use mathlib.Core.Path.{refl}
use Prim.Native.Nat.{◌<◌}
use native.Mathlib.Omega.{arith}
use lib.ListN.{length}
use Rattle.values_points.specs.Written.{marks_in}
use Rattle.values_points.proofs.Marks.{ranked}
use Rattle.values_points.proofs.Laws.{rank_below, written_present}
use Rattle.values_points.proofs.Missing.{cleared_past}
use Rattle.values_points.proofs.write_next.Goals.{After-clear_missing-next}
use Rattle.values_points.proofs.write_next.Goals as goal

-- The point found is before the end, since no present one was passed and one is left.
found : (c : After-clear_missing-next) → let a = c.args in c.clear_missing-next.result < length a.values.now
found c =
    let run = c.args.bitmap.now in
    let cleared = cleared_past (marks_in run) (ranked run) c.args.packing (λ _. c.args.x) c.clear_missing-next.ensures in
    rank_below (marks_in run) (ranked run).more {i = c.clear_missing-next.result} (length c.args.values.now) (omega (arith, cleared.used, c.requires.points_left.1))

pub bounds-values-next : goal.bounds-values-next
bounds-values-next c = omega (arith, found (goal.at.bounds-values-next c).After-clear_missing-next)

pub bounds-presence-next : goal.bounds-presence-next
bounds-presence-next c = omega (arith, found (goal.at.bounds-presence-next c).After-clear_missing-next)

pub returns : goal.returns
returns c =
    let a = c.args in
    let run = a.bitmap.now in
    let cleared = cleared_past (marks_in run) (ranked run) a.packing (λ _. a.x) c.clear_missing-next.ensures in
    rw c.rebuild.ensures
    (written_present (marks_in run) (ranked run).more a.packing (λ _. a.x) cleared (found (goal.at.returns c).After-clear_missing-next) (c.clear_missing-next.ensures.present (found (goal.at.returns c).After-clear_missing-next)) refl)
