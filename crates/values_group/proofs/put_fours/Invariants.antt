-- `values_group::put_fours` meets its contract. The invariant: `reached` is what the group keeps behind so many fours, the reader stands at the next, and the run
-- has what their integers become.
use Rattle.std.proofs.Common.{◌≡◌, ◌*◌}
use Rattle.std.specs.Prelude.{Some}
use Rattle.laws_rows.specs.Rows.{filled}
use Rattle.values_group.specs.Group.{integers_of}
use Rattle.values_group.proofs.Wrapped.{course_of}
use Rattle.values_group.proofs.Turns.{Stands, Reached}
use Rattle.values_group.proofs.put_fours.Given as goal

abbrev pub invariant-loop-four : goal.invariant-loop-four
invariant-loop-four g l =
    let s = course_of l.section l.fn.group l.gain l.fn.latest in
    Stands s (4 * l.four) l.reader × Reached s (4 * l.four) (Some l.reached)
    × (l.run ≡ filled (λ k. g.B.Becomes.becomes l.own (integers_of l.section l.fn.group l.fn.latest k)) 0 (4 * l.four) l.initial.run)
