-- `values_complex::worked_to` meets its contract. The invariant: so many of the wanted integers are left, `latest` are the last two that are kept, and
-- `start` is where group i starts, as long as some are left.
use mathlib.Core.Path.{◌≡◌, ap, ◌∙◌}
use Prim.Native.Nat.{◌<◌}
use Rattle.values_group.specs.declared.Group.{Group}
use Rattle.std.specs.Prelude.{Some}
use Rattle.values_group.specs.Group.{worked_by}
use Rattle.values_complex.specs.Complex.{group_at, first_of}
use Rattle.values_complex.proofs.Turns.{kept_limits, cut_limits, working_none, working_group, working_out, working_on}
use Rattle.values_complex.proofs.worked_to.Goals.{After-first_of-group, After-judge, In-loop-left}
use Rattle.values_complex.proofs.worked_to.Goals as goal

pub loop-left-init : goal.loop-left-init
loop-left-init c =
    let g = c.args.grouped in
    working_none g.section.now g.groups c.args.wanted c.requires.first_bound.0 c.requires.first_bound.1 c.first_bit-bit.ensures

-- Some integers are left, so there is a group.
inside : (c : In-loop-left) → c.loop-left.i < c.args.grouped.groups.grouping.groups
inside c =
    let g = c.args.grouped in
    working_group g.section.now g.groups c.args.wanted c.loop-left.invariant c.loop-left-test.true c.requires.wanted_bound

-- The group that is judged: the first numbers of group i.
first : (c : After-first_of-group) →
    let l = c.loop-left in
    let g = c.args.grouped in
    c.first_of-group.result ≡ first_of (group_at g.section.now g.groups l.i) l.left
first c = let l = c.loop-left in c.first_of-group.ensures ∙ ap (λ (g : Group). first_of g l.left) c.group_at-met.ensures.0

pub judge-requires : goal.judge-requires
judge-requires c =
    let l = c.loop-left in
    let g = c.args.grouped in
    rw (first (goal.at.judge-requires c).After-first_of-group)
    (cut_limits (group_at g.section.now g.groups l.i) l.left (kept_limits g.section.now g.groups _ l.invariant.kept (inside (goal.at.judge-requires c).In-loop-left) g.sound))

-- What their judging answers.
judged : (c : After-judge) →
    let l = c.loop-left in
    let run = c.args.grouped.section.now in
    let group = first_of (group_at run c.args.grouped.groups l.i) l.left in
    c.judge.result ≡ worked_by run group (Some l.latest) group.count
judged c =
    let l = c.loop-left in
    let first = c.first_of-group.ensures ∙ ap (λ (g : Group). first_of g l.left) c.group_at-met.ensures.0 in
    rw first at c.judge.ensures

pub returns-in_err-latest : goal.returns-in_err-latest
returns-in_err-latest c =
    let g = c.args.grouped in
    c.from_residual.ensures
    ∙ working_out g.section.now g.groups c.args.wanted c.loop-left.invariant c.loop-left-test.true (inside (goal.at.returns-in_err-latest c).In-loop-left) (judged (goal.at.returns-in_err-latest c).After-judge) c.in_err-latest.was

-- No more integers are judged than are left.
counted : (c : After-first_of-group) →
    let g = c.args.grouped in
    c.first_of-group.result.count ≡ (first_of (group_at g.section.now g.groups c.loop-left.i) c.loop-left.left).count
counted c = ap (λ (g : Group). g.count) (first c)

pub loop-left-preserved : goal.loop-left-preserved
loop-left-preserved c =
    let g = c.args.grouped in
    let on = working_on g.section.now g.groups c.args.wanted c.loop-left.invariant c.loop-left-test.true (inside (goal.at.loop-left-preserved c).In-loop-left) (judged (goal.at.loop-left-preserved c).After-judge) c.in_ok-latest.was in
    rw (counted (goal.at.loop-left-preserved c).After-first_of-group, c.group_at-met.ensures.1) on
