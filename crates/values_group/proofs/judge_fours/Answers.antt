-- `values_group::judge_fours` meets its contract.
use Rattle.std.proofs.Common.{ap, arith, lt-ltb, le-ltb}
use Rattle.values_group.proofs.Wrapped.{course_of}
use Rattle.values_group.proofs.Turns.{stands_first, stands_on, none_reached, four_seen_more, reached_as, reached_worked}
use Rattle.values_group.proofs.judge_fours.Goals as goal

pub loop-init : goal.loop-init
loop-init c =
    let s = course_of c.args.section.now c.args.group c.gain_of-gain.result c.args.latest in
    (stands_first s (ap (λ r. r.now) c.new-reader.ensures.0) (ap (λ p. p.0) c.new-reader.ensures.1), none_reached s)

pub loop-preserved : goal.loop-preserved
loop-preserved c =
    let l = c.loop in
    let f = c.next_four.ensures in
    let seen = four_seen_more l.seen c.next_four.result l.invariant.0 f.numbers l.invariant.1 c.next-first.ensures c.next-second.ensures c.next-third.ensures c.next-fourth.ensures in
    (stands_on l.invariant.0 f.same_run 4 f.behind (omega arith), reached_as seen (omega arith))

pub returns-then-seen-gt2147483647 : goal.returns-then-seen-gt2147483647
returns-then-seen-gt2147483647 c =
    let out = rw (lt-ltb _ _ c.if-seen-gt2147483647.true) at c.loop.invariant.1 in
    reached_worked c.requires.0 c.gain_of-gain.ensures.gains out (omega arith)

pub returns : goal.returns
returns c =
    let kept = rw (le-ltb _ _ c.if-seen-gt2147483647.false) at c.loop.invariant.1 in
    reached_worked c.requires.0 c.gain_of-gain.ensures.gains kept (omega arith)
