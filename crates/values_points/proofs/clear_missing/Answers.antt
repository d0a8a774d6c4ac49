-- `values_points::clear_missing` meets its contract: before the first point nothing is written, and a point that is missing is one more.
use mathlib.Core.Path.{sym, ◌∙◌}
use native.Mathlib.Omega.{arith}
use borrow.Author.Tests.{eqb-false}
use Rattle.values_points.specs.Written.{marks_in, runs}
use Rattle.values_points.proofs.Marks.{ranked}
use Rattle.values_points.proofs.Missing.{zero_literal, missing_none, missing_more}
use Rattle.values_points.proofs.clear_missing.Goals as goal

pub loop-i-init : goal.loop-i-init
loop-i-init c = let a = c.args in missing_none (marks_in a.bitmap.now) a.point (runs a.values.now a.presence.now) c.requires.point_in_bounds

pub loop-i-preserved : goal.loop-i-preserved
loop-i-preserved c =
    let a = c.args in
    let mark = (marks_in a.bitmap.now).mark c.loop-i.i in
    let absent = eqb-false mark 1 (sym c.is_present.ensures ∙ c.if-is_present.false) in
    rw zero_literal
    (missing_more (marks_in a.bitmap.now) a.point (runs a.values.now a.presence.now) c.loop-i.invariant (omega arith) (omega (arith, (ranked a.bitmap.now).few c.loop-i.i, absent)))
