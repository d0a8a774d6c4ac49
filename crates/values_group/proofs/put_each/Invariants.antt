-- `values_group::put_each` meets its contract. The invariant: `reached` is what the group keeps behind so many numbers, the reader stands at the next, and the run
-- has what their integers become.
use Rattle.std.proofs.Common.{◌≡◌}
use Rattle.std.specs.Prelude.{Some}
use Rattle.laws_rows.specs.Rows.{filled}
use Rattle.values_group.specs.Group.{integers_of}
use Rattle.values_group.proofs.Wrapped.{course_of}
use Rattle.values_group.proofs.Turns.{Stands, Reached}
use Rattle.values_group.proofs.put_each.Given as goal

abbrev pub invariant-loop-place : goal.invariant-loop-place
invariant-loop-place g l =
    let s = course_of l.section l.fn.group l.gain l.fn.latest in
    Stands s l.place-index l.reader × Reached s l.place-index (Some l.reached)
    × (l.run ≡ filled (λ k. g.B.Becomes.becomes l.own (integers_of l.section l.fn.group l.fn.latest k)) 0 l.place-index l.initial.run)
