-- `values_group::judge_each` meets its contract.
use Rattle.std.proofs.Common.{ap, refl, arith}
use Rattle.values_group.proofs.Wrapped.{course_of}
use Rattle.values_group.proofs.Turns.{stands_first, stands_behind, packed_one, none_reached, one_inside, one_outside, reached_worked, reached_out}
use Rattle.values_group.proofs.judge_each.Goals as goal

pub loop-init : goal.loop-init
loop-init c =
    let s = course_of c.args.section.now c.args.group c.gain_of-gain.result c.args.latest in
    (stands_first s (ap (λ r. r.now) c.new-reader.ensures.0) (ap (λ p. p.0) c.new-reader.ensures.1), none_reached s)

pub returns-then-x-gt2147483647 : goal.returns-then-x-gt2147483647
returns-then-x-gt2147483647 c =
    let i = c.loop.invariant in
    let out = one_outside i.1 (packed_one i.0 c.next.ensures.number) c.next-x.ensures (omega arith) in
    reached_out c.requires c.gain_of-gain.ensures.gains out refl (omega arith)

pub loop-preserved : goal.loop-preserved
loop-preserved c =
    let i = c.loop.invariant in (
      stands_behind i.0 c.next.ensures.same_run c.next.ensures.behind,
      one_inside i.1 (packed_one i.0 c.next.ensures.number) c.next-x.ensures (omega arith),
    )

pub returns : goal.returns
returns c = reached_worked c.requires c.gain_of-gain.ensures.gains c.loop.invariant.1 (omega arith)
