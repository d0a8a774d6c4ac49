-- `values_largest::in_fours` meets its contract.
use Rattle.std.proofs.Common.{◌≡◌, ℕ, ◌+◌, ◌*◌, get_or, ap, sym, ◌∙◌, refl, add-zero, arith}
use Rattle.values_integers.specs.Integers.{simple_integer}
use Rattle.values_simple.proofs.Laws.{stands_first, stands_on, reads_four}
use Rattle.values_largest.specs.Largest.{largest_from, largest_of}
use Rattle.values_largest.proofs.Laws.{largest_four}
use Rattle.values_largest.proofs.in_fours.Goals as goal

pub loop-init : goal.loop-init
unfolding largest_from
loop-init c =
    (stands_first c.args.bits (ap (λ r. r.now) c.new-reader.ensures.0) (ap (λ p. p.0) c.new-reader.ensures.1 ∙ c.first_bit.ensures), refl)

pub loop-preserved : goal.loop-preserved
loop-preserved c =
    let a = c.args in
    let k = 4 * c.loop.counter in
    let i = c.loop.invariant in
    let numbers = c.next_several.result in
    let x : ℕ → ℕ = simple_integer a.section.now a.bits in
    let read = reads_four i.0 c.next_several.ensures.numbers in
    let one : get_or numbers 0 0 ≡ x k = read 0 (omega arith) ∙ ap x (add-zero k) in
    let two : get_or numbers 1 0 ≡ x (k + 1) = read 1 (omega arith) in
    let three : get_or numbers 2 0 ≡ x (k + 2) = read 2 (omega arith) in
    let last : get_or numbers 3 0 ≡ x (k + 3) = read 3 (omega arith) in
    let more : k + 4 ≡ 4 * (c.loop.counter + 1) = omega arith in
    let far : c.max-largest.result ≡ largest_of x (k + 4) =
    omega (arith, largest_four 0 x k, one, two, three, last, i.1, c.max.ensures, c.max-in-loop.ensures, c.max-found.ensures, c.max-largest.ensures) in
    (stands_on i.0 c.next_several.ensures.same_run 4 c.next_several.ensures.behind (sym more), far ∙ ap (largest_of x) more)
