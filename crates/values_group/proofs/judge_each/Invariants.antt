-- `values_group::judge_each` meets its contract. The invariant: `reached` is what the group keeps behind so many numbers, and the reader stands at the next.
use Rattle.std.specs.Prelude.{Some}
use Rattle.values_group.proofs.Wrapped.{course_of}
use Rattle.values_group.proofs.Turns.{Stands, Reached}
use Rattle.values_group.proofs.judge_each.Given as goal

abbrev pub invariant-loop : goal.invariant-loop
invariant-loop l =
    let s = course_of l.section l.fn.group l.gain l.fn.latest in
    Stands s l.counter l.reader × Reached s l.counter (Some l.reached)
