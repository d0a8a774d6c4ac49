-- `values_group::judge_fours` meets its contract. The invariant: `reached` is what the group keeps behind so many fours, unless what was seen of their integers
-- has a bit too many, and the reader stands at the next four.
use Rattle.std.proofs.Common.{◌*◌}
use Rattle.values_group.proofs.Wrapped.{course_of, unless_seen}
use Rattle.values_group.proofs.Turns.{Stands, Reached}
use Rattle.values_group.proofs.judge_fours.Given as goal

abbrev pub invariant-loop : goal.invariant-loop
invariant-loop l =
    let s = course_of l.section l.fn.group l.gain l.fn.latest in
    Stands s (4 * l.counter) l.reader × Reached s (4 * l.counter) (unless_seen l.seen l.reached)
