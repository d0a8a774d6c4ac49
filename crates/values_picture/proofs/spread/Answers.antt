-- `values_picture::spread` meets its contract. The invariant: the points before `i` have their greys, and the greys from `next` on lie where they lay, of which the
-- first is that of the next point that is present.
use mathlib.Core.Path.{◌≡◌, sym, ◌∙◌}
use Prim.Native.Nat.{◌+◌, ◌≤◌}
use native.Mathlib.Omega.{arith}
use borrow.Author.Tests.{eqb-true, eqb-false}
use lib.ListN.{length}
use Rattle.values_points.specs.Written.{marks_in}
use Rattle.values_points.proofs.Marks.{ranked}
use Rattle.values_picture.proofs.Laws.{spread_none, next_within, spread_present, spread_missing, spread_whole}
use Rattle.values_picture.proofs.spread.Goals.{Then-is_present}
use Rattle.values_picture.proofs.spread.Goals as goal

pub loop-i-init : goal.loop-i-init
loop-i-init c =
    spread_none (marks_in c.args.bitmap.now) (ranked c.args.bitmap.now) c.args.greys.now c.args.from c.requires.greys_value

-- The point is present, as it was told.
present : (c : Then-is_present) →
    let a = c.args in
    (marks_in a.bitmap.now).mark c.loop-i.i ≡ 1
present c =
    let a = c.args in
    eqb-true ((marks_in a.bitmap.now).mark c.loop-i.i) 1 (sym c.is_present.ensures ∙ c.if-is_present.true)

-- Its grey lies within the run.
inside : (c : Then-is_present) →
    c.loop-i.next + 1 ≤ length c.args.greys.now
inside c =
    next_within (marks_in c.args.bitmap.now) (ranked c.args.bitmap.now) c.args.greys.now c.args.from c.requires.greys_value c.loop-i.invariant (omega arith) (present c)

pub bounds-greys-next : goal.bounds-greys-next
bounds-greys-next c = omega (arith, inside (goal.at.bounds-greys-next c).Then-is_present, c.loop-i.invariant.kept)

pub loop-i-preserved-then-is_present : goal.loop-i-preserved-then-is_present
loop-i-preserved-then-is_present c =
    spread_present (marks_in c.args.bitmap.now) (ranked c.args.bitmap.now) c.args.greys.now c.args.from c.requires.greys_value c.loop-i.invariant (omega arith) (present (goal.at.loop-i-preserved-then-is_present c).Then-is_present)

pub loop-i-preserved : goal.loop-i-preserved
loop-i-preserved c =
    spread_missing (marks_in c.args.bitmap.now) (ranked c.args.bitmap.now) c.args.greys.now c.args.from c.requires.greys_value c.loop-i.invariant (omega arith)
    (omega (arith, (ranked c.args.bitmap.now).few c.loop-i.i, eqb-false ((marks_in c.args.bitmap.now).mark c.loop-i.i) 1 (sym c.is_present.ensures ∙ c.if-is_present.false)))

pub returns : goal.returns
returns c =
    spread_whole (marks_in c.args.bitmap.now) (ranked c.args.bitmap.now) c.args.greys.now c.args.from c.requires.greys_value c.loop-i.invariant (omega arith)
