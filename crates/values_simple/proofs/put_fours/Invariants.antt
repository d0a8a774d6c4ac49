-- `values_simple::put_fours` meets its contract. The invariant: the reader stands at the next four numbers, and the run has what those before them become.
use Rattle.std.proofs.Common.{◌≡◌, ◌*◌}
use Rattle.laws_rows.specs.Rows.{filled}
use Rattle.values_simple.specs.Simple.{numbers_from}
use Rattle.values_simple.proofs.Laws.{Stands}
use Rattle.values_simple.proofs.put_fours.Given as goal

abbrev pub invariant-loop-four : goal.invariant-loop-four
invariant-loop-four g l =
    Stands l.section l.bits l.fn.first.0 (4 * l.four) l.reader
    × (l.run ≡ filled (λ k. g.B.Becomes.becomes l.own (numbers_from l.section l.bits l.fn.first.0 k)) 0 (4 * l.four) l.initial.run)
