-- `values_largest::of_complex` meets its contract.
use mathlib.Core.Path.{◌∙◌}
use native.Mathlib.Omega.{arith}
use Rattle.values_complex.specs.Complex.{values_in}
use Rattle.values_complex.proofs.Joined.{first_out, second_out}
use Rattle.values_largest.proofs.Passed.{gathered_none, gathered_limits, gathered_on, gathered_out, gathered_all}
use Rattle.values_largest.proofs.of_complex.Goals as goal

pub returns-then-differencing-gt2147483647 : goal.returns-then-differencing-gt2147483647
returns-then-differencing-gt2147483647 c =
    let g = c.args.grouped in
    rw (first_out g.section.now g.groups c.if-differencing-gt2147483647.true (values_in g.section.now g.groups) (omega (arith, g.sound.two_values)))

pub returns-then-differencing-gt2147483647-2 : goal.returns-then-differencing-gt2147483647-2
returns-then-differencing-gt2147483647-2 c =
    let g = c.args.grouped in
    rw (second_out g.section.now g.groups c.if-differencing-gt2147483647-2.true (values_in g.section.now g.groups) g.sound.two_values)

pub loop-i-init : goal.loop-i-init
loop-i-init c =
    let g = c.args.grouped in
    gathered_none g.section.now g.groups c.if-differencing-gt2147483647.false c.if-differencing-gt2147483647-2.false c.first_bit-bit.ensures c.max.ensures

pub in_group-requires : goal.in_group-requires
in_group-requires c =
    let g = c.args.grouped in
    let l = c.loop-i in
    rw c.group_at-met.ensures.0 (gathered_limits g.section.now g.groups g.sound l.invariant c.loop-i-test.true, l.invariant.fits)

pub returns-in_err-seen : goal.returns-in_err-seen
returns-in_err-seen c =
    let g = c.args.grouped in
    let answered = rw c.group_at-met.ensures.0 at c.in_group.ensures in
    c.from_residual.ensures
    ∙ gathered_out g.section.now g.groups g.sound c.loop-i.invariant c.loop-i-test.true answered c.in_err-seen.was

pub loop-i-preserved : goal.loop-i-preserved
loop-i-preserved c =
    let g = c.args.grouped in
    let answered = rw c.group_at-met.ensures.0 at c.in_group.ensures in
    gathered_on g.section.now g.groups g.sound c.loop-i.invariant c.loop-i-test.true answered c.in_ok-seen.was c.group_at-met.ensures.1

pub returns : goal.returns
returns c = let g = c.args.grouped in gathered_all g.section.now g.groups g.sound c.loop-i.invariant c.loop-i-test.false
