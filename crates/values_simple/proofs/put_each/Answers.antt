-- `values_simple::put_each` meets its contract.
use Rattle.std.proofs.Common.{ℕ, length, ap, refl, ◌∙◌, arith}
use Rattle.laws_rows.specs.Rows.{filled}
use Rattle.laws_rows.proofs.Laws.{filled_one, start_end}
use Rattle.values_simple.specs.Simple.{numbers_from}
use Rattle.values_simple.proofs.Laws.{stands_first, stands_behind, reads_one}
use Rattle.values_simple.proofs.put_each.Goals as goal

pub loop-place-init : goal.loop-place-init
unfolding filled
loop-place-init g c = (stands_first c.args.bits (ap (λ r. r.now) c.new-reader.ensures.0) (ap (λ p. p.0) c.new-reader.ensures.1), refl)

pub loop-place-preserved : goal.loop-place-preserved
loop-place-preserved g c =
    let a = c.args in
    let l = c.loop-place in
    let b = g.B.Becomes.becomes a.sink in (
      stands_behind l.invariant.0 c.next.ensures.same_run c.next.ensures.behind,
      filled_one (λ k. b (numbers_from a.section.now a.bits a.first.0 k)) l.place-index a.run.now l.run l.invariant.1
          (c.of.ensures ∙ ap b (reads_one l.invariant.0 c.next.ensures.number)),
    )

pub returns : goal.returns
returns g c =
    let a = c.args in
    let l = c.loop-place in
    let f = λ (k : ℕ). g.B.Becomes.becomes a.sink (numbers_from a.section.now a.bits a.first.0 k) in
    start_end f l.place-index a.run.now l.run l.invariant.1 (length a.run.now) (omega arith) refl
