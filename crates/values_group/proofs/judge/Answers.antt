-- `values_group::judge` meets its contract: behind the numbers that are read four at a time, what is left of the group goes on where they stopped.
use Rattle.std.proofs.Common.{◌∙◌, sym, arith}
use Rattle.std.specs.Prelude.{Some}
use Rattle.bits.proofs.Fours.{fours_foured}
use Rattle.values_group.proofs.Steps.{out_later}
use Rattle.values_group.proofs.Left.{behind_limits, behind_all, limits_on}
use Rattle.values_group.proofs.judge.Goals as goal

pub judge_fours-requires : goal.judge_fours-requires
judge_fours-requires c = (c.requires, fours_foured _ _ _ _ c.fours_in-fours.ensures)

pub returns-in_err-reached : goal.returns-in_err-reached
returns-in_err-reached c =
    let a = c.args in
    let foured = fours_foured _ _ _ _ c.fours_in-fours.ensures in
    c.from_residual.ensures ∙ out_later a.section.now a.group (Some a.latest) a.group.count foured.few (sym c.in_err-reached.ensures)

pub overflow_mul-fours : goal.overflow_mul-fours
overflow_mul-fours c =
    let foured = fours_foured _ _ _ _ c.fours_in-fours.ensures in omega (arith, foured.few, c.requires.of_count)

pub behind-requires : goal.behind-requires
behind-requires c =
    let foured = fours_foured _ _ _ _ c.fours_in-fours.ensures in (foured.few, omega (arith, c.requires.of_end), c.requires.of_width, c.requires.of_count)

pub judge_each-requires : goal.judge_each-requires
judge_each-requires c =
    let a = c.args in
    let foured = fours_foured _ _ _ _ c.fours_in-fours.ensures in
    let kept = sym c.judge_fours.ensures ∙ c.in_ok-reached.was in
    rw c.behind.ensures (behind_limits a.section.now a.group _ (limits_on a.section.now a.group a.latest _ kept c.requires) foured.few)

pub returns : goal.returns
returns c =
    let a = c.args in
    let foured = fours_foured _ _ _ _ c.fours_in-fours.ensures in
    let kept = sym c.judge_fours.ensures ∙ c.in_ok-reached.was in
    rw c.behind.ensures at c.judge_each.ensures ∙ behind_all a.section.now a.group a.latest _ kept foured.few
