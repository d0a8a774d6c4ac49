-- `values_largest::of_simple` meets its contract.
use Rattle.std.proofs.Common.{◌≡◌, ℕ, ◌*◌, ◌≤◌, ap, refl, ◌∙◌, mul-le-mul, arith}
use Rattle.values_integers.specs.Integers.{simple_integer}
use Rattle.values_simple.proofs.Laws.{windowed, stands_behind, reads_one}
use Rattle.values_largest.specs.Largest.{largest_of}
use Rattle.values_largest.proofs.Laws.{largest_next, simple_within}
use Rattle.values_largest.proofs.of_simple.Goals as goal

pub in_fours-largest-requires : goal.in_fours-largest-requires
in_fours-largest-requires c = (c.requires, windowed c.args.numbered.section.now c.args.numbered.bits c.args.n c.window_fours-fours.ensures)

pub overflow_mul-start : goal.overflow_mul-start
overflow_mul-start c =
    let fours = windowed c.args.numbered.section.now c.args.numbered.bits c.args.n c.window_fours-fours.ensures in omega (arith, fours.1.few, c.requires)

-- The numbers of a field have few bits.
few_bits : {k n bits : ℕ} → k ≤ n → n ≤ 16777216 → bits ≤ 31 → k * bits ≤ 16777216 * 31
few_bits {k} few most narrow = let small : k ≤ 16777216 = omega arith in mul-le-mul small narrow

pub overflow_mul-place : goal.overflow_mul-place
overflow_mul-place c =
    let fours = windowed c.args.numbered.section.now c.args.numbered.bits c.args.n c.window_fours-fours.ensures in
    omega (arith, few_bits fours.1.few c.requires c.args.numbered.fits)

pub overflow_add-place : goal.overflow_add-place
overflow_add-place c =
    let fours = windowed c.args.numbered.section.now c.args.numbered.bits c.args.n c.window_fours-fours.ensures in
    omega (arith, few_bits fours.1.few c.requires c.args.numbered.fits, c.first_bit-first.ensures)

pub loop-preserved : goal.loop-preserved
loop-preserved c =
    let i = c.loop.invariant in
    let x : ℕ → ℕ = simple_integer c.args.numbered.section.now c.args.numbered.bits in
    let read : c.next-x.result ≡ x c.loop.counter = reads_one i.0 c.next-x.ensures.number in
    (stands_behind i.0 c.next-x.ensures.same_run c.next-x.ensures.behind, omega (arith, c.max-largest.ensures, i.1, read, largest_next 0 x c.loop.counter refl))

pub overflow_cast-result : goal.overflow_cast-result
overflow_cast-result c = omega (arith, c.loop.invariant.1, simple_within c.args.numbered.section.now c.loop.counter c.args.numbered.fits)

pub returns : goal.returns
returns c =
    let fours = windowed c.args.numbered.section.now c.args.numbered.bits c.args.n c.window_fours-fours.ensures in
    let all : c.loop.counter ≡ c.args.n = omega (arith, fours.1.few) in
    c.loop.invariant.1 ∙ ap (largest_of (simple_integer c.args.numbered.section.now c.args.numbered.bits)) all
