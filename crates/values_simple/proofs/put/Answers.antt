-- `values_simple::put` meets its contract: behind the numbers that are put four at a time the others are put one by one, and the run has them all.
use Rattle.std.proofs.Common.{◌≡◌, ℕ, ◌+◌, ◌-◌, ◌*◌, ◌++◌, length, ap, ap₂, sym, ◌∙◌, subst, arith}
use Rattle.bits.proofs.Fours.{fours_foured}
use Rattle.laws_rows.specs.Rows.{row}
use Rattle.laws_rows.proofs.Laws.{row_same, row_then}
use Rattle.values_simple.specs.Simple.{integers_behind}
use Rattle.values_simple.proofs.Laws.{integers_from, numbers_further}
use Rattle.values_simple.proofs.put.Goals as goal

pub overflow_mul-fours : goal.overflow_mul-fours
overflow_mul-fours g c = let foured = fours_foured _ _ _ _ c.fours_in-fours.ensures in omega (arith, foured.few, c.requires.limits.1)

pub split_at_mut-front-requires : goal.split_at_mut-front-requires
split_at_mut-front-requires g c = let foured = fours_foured _ _ _ _ c.fours_in-fours.ensures in foured.few

pub put_fours-requires-clause-foured : goal.put_fours-requires-clause-foured
put_fours-requires-clause-foured g c =
    let foured = fours_foured _ _ _ _ c.fours_in-fours.ensures in
    record { few = omega (arith, c.split_at_mut-front.ensures.front_len); narrow = foured.narrow; inside = foured.inside }

pub put_fours-requires-clause-taken : goal.put_fours-requires-clause-taken
put_fours-requires-clause-taken g c k h =
    let a = c.args in
    let start = ap (λ (n : ℕ). n + a.done * a.numbered.bits) c.first_bit-start.ensures in
    subst (g.B.Becomes.takes a.sink) (sym (integers_from a.numbered.section.now a.numbered.bits a.done start k)) (c.requires.taken k (omega (arith, c.split_at_mut-front.ensures)))

pub put_each-requires-clause-taken : goal.put_each-requires-clause-taken
put_each-requires-clause-taken g c k h =
    let a = c.args in
    let count = 4 * c.fours_in-fours.result in
    let start = ap (λ (n : ℕ). n + a.done * a.numbered.bits) c.first_bit-start.ensures in
    let same = numbers_further a.numbered.section.now a.numbered.bits (c.first_bit-start.result.0 + a.done * a.numbered.bits) count k ∙ integers_from a.numbered.section.now a.numbered.bits a.done start (count + k) in
    subst (g.B.Becomes.takes a.sink) (sym same) (c.requires.taken (count + k) (omega (arith, c.split_at_mut-front.ensures)))

pub returns : goal.returns
returns g c =
    let a = c.args in
    let foured = fours_foured _ _ _ _ c.fours_in-fours.ensures in
    let count = 4 * c.fours_in-fours.result in
    let first = c.first_bit-start.result.0 + a.done * a.numbered.bits in
    let b = g.B.Becomes.becomes a.sink in
    let f = λ (k : ℕ). b (integers_behind a.numbered.section.now a.numbered.bits a.done k) in
    let start = ap (λ (n : ℕ). n + a.done * a.numbered.bits) c.first_bit-start.ensures in
    let left : length c.split_at_mut-front.result.1.now ≡ length a.run.now - count = omega (arith, c.split_at_mut-front.ensures.back_len) in
    let all : count + (length a.run.now - count) ≡ length a.run.now = omega (arith, foured.few) in
    ap₂ (λ front back. front ++ back)
    (rw c.split_at_mut-front.ensures.front_len at c.put_fours.ensures ∙ row_same _ f _ (λ k _. ap b (integers_from a.numbered.section.now a.numbered.bits a.done start k)))
    (rw left at c.put_each.ensures
    ∙ row_same _ (λ k. f (count + k)) _ (λ k _. ap b (numbers_further a.numbered.section.now a.numbered.bits first count k ∙ integers_from a.numbered.section.now a.numbered.bits a.done start (count + k))))
    ∙ row_then f count (length a.run.now - count)
    ∙ ap (row f) all
