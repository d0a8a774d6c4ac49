-- `values_simple::put_fours` meets its contract.
use Rattle.std.proofs.Common.{◌≡◌, ℕ, ◌+◌, ◌*◌, length, ap, refl, sym, ◌∙◌, subst, add-zero, arith}
use Rattle.laws_rows.specs.Rows.{filled}
use Rattle.laws_rows.proofs.Laws.{filled_four, start_end}
use Rattle.values_simple.specs.Simple.{numbers_from}
use Rattle.values_simple.proofs.Laws.{stands_first, stands_on, reads_four}
use Rattle.values_simple.proofs.put_fours.Goals as goal

pub loop-four-init : goal.loop-four-init
unfolding filled
loop-four-init g c = (stands_first c.args.bits (ap (λ r. r.now) c.new-reader.ensures.0) (ap (λ p. p.0) c.new-reader.ensures.1), refl)

pub of-requires : goal.of-requires
of-requires g c =
    let read = reads_four c.loop-four.invariant.0 c.next_four.ensures.numbers in
    subst (g.B.Becomes.takes c.args.sink) (sym (read 0 (omega arith))) (c.requires.taken (4 * c.loop-four.four + 0) (omega arith))

pub of-requires-in-loop-four : goal.of-requires-in-loop-four
of-requires-in-loop-four g c =
    let read = reads_four c.loop-four.invariant.0 c.next_four.ensures.numbers in
    subst (g.B.Becomes.takes c.args.sink) (sym (read 1 (omega arith))) (c.requires.taken (4 * c.loop-four.four + 1) (omega arith))

pub of-requires-in-loop-four-2 : goal.of-requires-in-loop-four-2
of-requires-in-loop-four-2 g c =
    let read = reads_four c.loop-four.invariant.0 c.next_four.ensures.numbers in
    subst (g.B.Becomes.takes c.args.sink) (sym (read 2 (omega arith))) (c.requires.taken (4 * c.loop-four.four + 2) (omega arith))

pub of-requires-in-loop-four-3 : goal.of-requires-in-loop-four-3
of-requires-in-loop-four-3 g c =
    let read = reads_four c.loop-four.invariant.0 c.next_four.ensures.numbers in
    subst (g.B.Becomes.takes c.args.sink) (sym (read 3 (omega arith))) (c.requires.taken (4 * c.loop-four.four + 3) (omega arith))

pub loop-four-preserved : goal.loop-four-preserved
loop-four-preserved g c =
    let a = c.args in
    let l = c.loop-four in
    let k = 4 * l.four in
    let read = reads_four l.invariant.0 c.next_four.ensures.numbers in
    let b = g.B.Becomes.becomes a.sink in
    let f = λ (j : ℕ). b (numbers_from a.section.now a.bits a.first.0 j) in
    let more : k + 4 ≡ 4 * (l.four + 1) = omega arith in
    let elements =
    filled_four f k a.run.now l.run l.invariant.1 (c.of.ensures ∙ ap b (read 0 (omega arith)) ∙ ap f (add-zero k)) (c.of-in-loop-four.ensures ∙ ap b (read 1 (omega arith)))
    (c.of-in-loop-four-2.ensures ∙ ap b (read 2 (omega arith))) (c.of-in-loop-four-3.ensures ∙ ap b (read 3 (omega arith))) in
    (stands_on l.invariant.0 c.next_four.ensures.same_run 4 c.next_four.ensures.behind (sym more), elements ∙ ap (λ (n : ℕ). filled f 0 n a.run.now) more)

pub returns : goal.returns
returns g c =
    let a = c.args in
    let l = c.loop-four in
    let f = λ (k : ℕ). g.B.Becomes.becomes a.sink (numbers_from a.section.now a.bits a.first.0 k) in
    start_end f (4 * l.four) a.run.now l.run l.invariant.1 (length a.run.now) (omega arith) refl
