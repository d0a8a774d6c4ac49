-- `section_7::plan_of` meets its contract: the loop keeps the sums over the groups that it has passed, and a group that is not sound, or one
-- that has too many values, leaves no plan.
use mathlib.Core.Path.{sym, ◌∙◌}
use native.Mathlib.Omega.{arith}
use Rattle.section_7.proofs.Planned.{planned_none, unsound, too_many, next_fits, planned_more}
use Rattle.section_7.proofs.plan_of.Goals as goal

pub loop-i-init : goal.loop-i-init
loop-i-init c = planned_none _ _ _ _

pub returns-then-not-is_sound : goal.returns-then-not-is_sound
returns-then-not-is_sound c =
    sym (unsound _ _ _ _ c.loop-i-test.true (rw (c.width_of-width.ensures, c.length_of-length.ensures.0) at (sym c.is_sound.ensures ∙ c.if-not-is_sound.true)))

pub returns-then-n-values : goal.returns-then-n-values
returns-then-n-values c = sym (too_many _ _ _ _ c.loop-i-test.true (omega arith))

pub overflow_add-bits : goal.overflow_add-bits
overflow_add-bits c =
    let sound = sym c.is_sound.ensures ∙ c.if-not-is_sound.false in
    omega (arith, next_fits _ _ _ _ c.loop-i.invariant _ c.length_of-length.result (omega arith) sound c.if-n-values.false)

pub loop-i-preserved : goal.loop-i-preserved
loop-i-preserved c =
    planned_more _ _ _ _ c.loop-i.invariant c.loop-i-test.true c.width_of-width.ensures c.length_of-length.ensures.0
    (sym c.is_sound.ensures ∙ c.if-not-is_sound.false) c.if-n-values.false
