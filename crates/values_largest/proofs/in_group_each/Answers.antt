-- `values_largest::in_group_each` meets its contract.
use Rattle.std.proofs.Common.{ap, refl, arith}
use Rattle.values_group.proofs.Wrapped.{course_of}
use Rattle.values_group.proofs.Turns.{stands_first, stands_behind, packed_one}
use Rattle.values_largest.proofs.Turns.{none_looked, one_looked, looked_as, looked_out, looked_kept}
use Rattle.values_largest.proofs.in_group_each.Goals as goal

pub loop-init : goal.loop-init
loop-init c =
    let s = course_of c.args.section.now c.args.group c.gain_of-gain.result c.args.seen.latest in
    (stands_first s (ap (λ r. r.now) c.new-reader.ensures.0) (ap (λ p. p.0) c.new-reader.ensures.1), none_looked s c.requires.1)

pub loop-preserved : goal.loop-preserved
loop-preserved c =
    let i = c.loop.invariant in (
      stands_behind i.0 c.next.ensures.same_run c.next.ensures.behind,
      looked_as (one_looked i.1 (packed_one i.0 c.next.ensures.number) c.next-x.ensures) refl c.max-largest.ensures,
    )

pub returns-then-largest-gt2147483647 : goal.returns-then-largest-gt2147483647
returns-then-largest-gt2147483647 c =
    looked_out c.args.section.now c.args.group c.args.seen c.requires.0 c.gain_of-gain.ensures.gains c.loop.invariant.1 (omega arith) c.if-largest-gt2147483647.true

pub returns : goal.returns
returns c =
    looked_kept c.args.section.now c.args.group c.args.seen c.requires.0 c.gain_of-gain.ensures.gains c.loop.invariant.1 (omega arith) c.if-largest-gt2147483647.false
