-- `values_largest::in_group` meets its contract: behind the numbers that are read four at a time, what is left of the group goes on where they stopped.
use Rattle.std.proofs.Common.{◌*◌, ◌∙◌, arith}
use Rattle.bits.proofs.Fours.{fours_foured}
use Rattle.values_group.proofs.Left.{behind_limits}
use Rattle.values_largest.proofs.Turns.{out_joined, seen_limits, seen_within, seen_joined}
use Rattle.values_largest.proofs.in_group.Goals as goal

pub in_group_fours-requires : goal.in_group_fours-requires
in_group_fours-requires c = (c.requires.0, fours_foured _ _ _ _ c.fours_in-fours.ensures, c.requires.1)

pub returns-in_err-found : goal.returns-in_err-found
returns-in_err-found c =
    let a = c.args in
    let foured = fours_foured _ _ _ _ c.fours_in-fours.ensures in
    c.from_residual.ensures ∙ out_joined a.section.now a.group a.seen (4 * c.fours_in-fours.result) c.in_err-found.ensures foured.few

pub overflow_mul-fours : goal.overflow_mul-fours
overflow_mul-fours c =
    let foured = fours_foured _ _ _ _ c.fours_in-fours.ensures in omega (arith, foured.few, c.requires.0.of_count)

pub behind-requires : goal.behind-requires
behind-requires c =
    let sizes = c.requires.0 in
    let foured = fours_foured _ _ _ _ c.fours_in-fours.ensures in (foured.few, omega (arith, sizes.of_end), sizes.of_width, sizes.of_count)

pub in_group_each-requires : goal.in_group_each-requires
in_group_each-requires c =
    let a = c.args in
    let foured = fours_foured _ _ _ _ c.fours_in-fours.ensures in
    let done = 4 * c.fours_in-fours.result in
    let limits = seen_limits a.section.now a.group a.seen done c.in_ok-found.ensures c.requires.0 in
    rw c.behind.ensures
    (behind_limits a.section.now a.group done limits foured.few, seen_within a.section.now a.group a.seen done c.in_ok-found.ensures c.requires.0 c.requires.1)

pub returns : goal.returns
returns c =
    let a = c.args in
    let foured = fours_foured _ _ _ _ c.fours_in-fours.ensures in
    rw c.behind.ensures at c.in_group_each.ensures ∙ seen_joined a.section.now a.group a.seen (4 * c.fours_in-fours.result) c.in_ok-found.ensures foured.few
