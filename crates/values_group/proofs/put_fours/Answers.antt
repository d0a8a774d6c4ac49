-- `values_group::put_fours` meets its contract.
use Rattle.std.proofs.Common.{◌≡◌, ℕ, ◌+◌, ◌*◌, ap, refl, sym, ◌∙◌, subst, arith}
use Rattle.laws_rows.specs.Rows.{filled}
use Rattle.laws_rows.proofs.Laws.{filled_four, filled_whole}
use Rattle.values_group.specs.Group.{integers_of}
use Rattle.values_group.proofs.Wrapped.{course_of}
use Rattle.values_group.proofs.Turns.{stands_first, stands_on, none_reached, four_put, reached_as, reached_worked}
use Rattle.values_group.proofs.put_fours.Goals as goal

pub loop-four-init : goal.loop-four-init
unfolding filled
loop-four-init g c =
    let s = course_of c.args.section.now c.args.group c.gain_of-gain.result c.args.latest in
    (stands_first s (ap (λ r. r.now) c.new-reader.ensures.0) (ap (λ p. p.0) c.new-reader.ensures.1), none_reached s, refl)

pub of-requires : goal.of-requires
of-requires g c =
    let a = c.args in
    let l = c.loop-four in
    let put = four_put a.section.now a.group c.gain_of-gain.result a.latest (4 * a.fours) c.requires.limits.0 c.gain_of-gain.ensures.gains c.requires.group_kept in
    let told =
    put c.next_four.result l.invariant.0 c.next_four.ensures.numbers l.invariant.1 (omega arith) c.next-one.ensures c.next-two.ensures c.next-three.ensures
    c.next-last.ensures in
    subst (g.B.Becomes.takes a.sink) (sym (c.element.ensures ∙ told.1)) (c.requires.taken (4 * l.four) (omega arith))

pub of-requires-in-loop-four : goal.of-requires-in-loop-four
of-requires-in-loop-four g c =
    let a = c.args in
    let l = c.loop-four in
    let put = four_put a.section.now a.group c.gain_of-gain.result a.latest (4 * a.fours) c.requires.limits.0 c.gain_of-gain.ensures.gains c.requires.group_kept in
    let told =
    put c.next_four.result l.invariant.0 c.next_four.ensures.numbers l.invariant.1 (omega arith) c.next-one.ensures c.next-two.ensures c.next-three.ensures
    c.next-last.ensures in
    subst (g.B.Becomes.takes a.sink) (sym (c.element-in-loop-four.ensures ∙ told.2)) (c.requires.taken (4 * l.four + 1) (omega arith))

pub of-requires-in-loop-four-2 : goal.of-requires-in-loop-four-2
of-requires-in-loop-four-2 g c =
    let a = c.args in
    let l = c.loop-four in
    let put = four_put a.section.now a.group c.gain_of-gain.result a.latest (4 * a.fours) c.requires.limits.0 c.gain_of-gain.ensures.gains c.requires.group_kept in
    let told =
    put c.next_four.result l.invariant.0 c.next_four.ensures.numbers l.invariant.1 (omega arith) c.next-one.ensures c.next-two.ensures c.next-three.ensures
    c.next-last.ensures in
    subst (g.B.Becomes.takes a.sink) (sym (c.element-in-loop-four-2.ensures ∙ told.3)) (c.requires.taken (4 * l.four + 2) (omega arith))

pub of-requires-in-loop-four-3 : goal.of-requires-in-loop-four-3
of-requires-in-loop-four-3 g c =
    let a = c.args in
    let l = c.loop-four in
    let put = four_put a.section.now a.group c.gain_of-gain.result a.latest (4 * a.fours) c.requires.limits.0 c.gain_of-gain.ensures.gains c.requires.group_kept in
    let told =
    put c.next_four.result l.invariant.0 c.next_four.ensures.numbers l.invariant.1 (omega arith) c.next-one.ensures c.next-two.ensures c.next-three.ensures
    c.next-last.ensures in
    subst (g.B.Becomes.takes a.sink) (sym (c.element-in-loop-four-3.ensures ∙ told.4)) (c.requires.taken (4 * l.four + 3) (omega arith))

pub loop-four-preserved : goal.loop-four-preserved
loop-four-preserved g c =
    let a = c.args in
    let l = c.loop-four in
    let put = four_put a.section.now a.group c.gain_of-gain.result a.latest (4 * a.fours) c.requires.limits.0 c.gain_of-gain.ensures.gains c.requires.group_kept in
    let told =
    put c.next_four.result l.invariant.0 c.next_four.ensures.numbers l.invariant.1 (omega arith) c.next-one.ensures c.next-two.ensures c.next-three.ensures
    c.next-last.ensures in
    let b = g.B.Becomes.becomes a.sink in
    let f = λ (k : ℕ). b (integers_of a.section.now a.group a.latest k) in
    let more : 4 * l.four + 4 ≡ 4 * (l.four + 1) = omega arith in
    let elements =
    filled_four f (4 * l.four) a.run.now l.run l.invariant.2 (c.of.ensures ∙ ap b (c.element.ensures ∙ told.1))
    (c.of-in-loop-four.ensures ∙ ap b (c.element-in-loop-four.ensures ∙ told.2))
    (c.of-in-loop-four-2.ensures ∙ ap b (c.element-in-loop-four-2.ensures ∙ told.3))
    (c.of-in-loop-four-3.ensures ∙ ap b (c.element-in-loop-four-3.ensures ∙ told.4)) in (
      stands_on {s = course_of a.section.now a.group c.gain_of-gain.result a.latest} l.invariant.0 c.next_four.ensures.same_run 4 c.next_four.ensures.behind more,
      reached_as told.0 more,
      elements ∙ ap (λ (n : ℕ). filled f 0 n a.run.now) more,
    )

pub returns : goal.returns
returns g c =
    let a = c.args in
    let l = c.loop-four in
    let all : 4 * l.four ≡ 4 * a.fours = omega arith in
    let f = λ (k : ℕ). g.B.Becomes.becomes a.sink (integers_of a.section.now a.group a.latest k) in
    record {
      group_goes = sym (reached_worked c.requires.limits.0 c.gain_of-gain.ensures.gains l.invariant.1 all);
      run_after = l.invariant.2 ∙ ap (λ (n : ℕ). filled f 0 n a.run.now) all ∙ filled_whole f (4 * a.fours) a.run.now (sym c.requires.limits.1);
    }
