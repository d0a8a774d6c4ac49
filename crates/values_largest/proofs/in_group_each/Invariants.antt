-- `values_largest::in_group_each` meets its contract. The invariant: so many of the group's integers are looked at, and the reader stands at the next number.
use Rattle.values_group.proofs.Wrapped.{course_of}
use Rattle.values_group.proofs.Turns.{Stands}
use Rattle.values_largest.proofs.Turns.{Looked}
use Rattle.values_largest.proofs.in_group_each.Given as goal

abbrev pub invariant-loop : goal.invariant-loop
invariant-loop l =
    let s = course_of l.section l.fn.group l.gain l.fn.seen.latest in
    Stands s l.counter l.reader × Looked s l.fn.seen.largest l.counter l.latest l.largest
