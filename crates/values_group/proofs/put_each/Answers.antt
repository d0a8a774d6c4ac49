-- `values_group::put_each` meets its contract.
use Rattle.std.proofs.Common.{◌≡◌, ℕ, length, ap, refl, sym, ◌∙◌, subst, arith}
use Rattle.laws_rows.specs.Rows.{row, filled}
use Rattle.laws_rows.proofs.Laws.{filled_one, filled_whole}
use Rattle.values_group.specs.Group.{integers_of}
use Rattle.values_group.proofs.Wrapped.{course_of}
use Rattle.values_group.proofs.Turns.{stands_first, stands_behind, packed_one, none_reached, one_put, reached_worked}
use Rattle.values_group.proofs.put_each.Goals as goal

pub loop-place-init : goal.loop-place-init
unfolding filled
loop-place-init g c =
    let s = course_of c.args.section.now c.args.group c.gain_of-gain.result c.args.latest in
    (stands_first s (ap (λ r. r.now) c.new-reader.ensures.0) (ap (λ p. p.0) c.new-reader.ensures.1), none_reached s, refl)

pub of-requires : goal.of-requires
of-requires g c =
    let a = c.args in
    let l = c.loop-place in
    let s = course_of a.section.now a.group c.gain_of-gain.result a.latest in
    let put = one_put a.section.now a.group c.gain_of-gain.result a.latest (length a.run.now) c.requires.limits.0 c.gain_of-gain.ensures.gains c.requires.group_kept in
    let told = put l.invariant.1 (packed_one {s = s} l.invariant.0 c.next.ensures.number) c.next-x.ensures (omega arith) in
    subst (g.B.Becomes.takes a.sink) (sym (c.element.ensures ∙ told.1)) (c.requires.taken l.place-index (omega arith))

pub loop-place-preserved : goal.loop-place-preserved
loop-place-preserved g c =
    let a = c.args in
    let l = c.loop-place in
    let s = course_of a.section.now a.group c.gain_of-gain.result a.latest in
    let put = one_put a.section.now a.group c.gain_of-gain.result a.latest (length a.run.now) c.requires.limits.0 c.gain_of-gain.ensures.gains c.requires.group_kept in
    let told = put l.invariant.1 (packed_one {s = s} l.invariant.0 c.next.ensures.number) c.next-x.ensures (omega arith) in
    let f = λ (k : ℕ). g.B.Becomes.becomes a.sink (integers_of a.section.now a.group a.latest k) in (
      stands_behind {s = s} l.invariant.0 c.next.ensures.same_run c.next.ensures.behind,
      told.0,
      filled_one f l.place-index a.run.now l.run l.invariant.2 (c.of.ensures ∙ ap (g.B.Becomes.becomes a.sink) (c.element.ensures ∙ told.1)),
    )

pub returns : goal.returns
returns g c =
    let a = c.args in
    let l = c.loop-place in
    let all : l.place-index ≡ length a.run.now = omega arith in
    let f = λ (k : ℕ). g.B.Becomes.becomes a.sink (integers_of a.section.now a.group a.latest k) in
    record {
      group_goes = sym (reached_worked c.requires.limits.0 c.gain_of-gain.ensures.gains l.invariant.1 all);
      run_after = l.invariant.2 ∙ filled_whole f l.place-index a.run.now all ∙ ap (row f) all;
    }
