-- `values_simple::put_each` meets its contract. The invariant: the reader stands at the next number, and the run has what those before it become.
use Rattle.std.proofs.Common.{◌≡◌}
use Rattle.laws_rows.specs.Rows.{filled}
use Rattle.values_simple.specs.Simple.{numbers_from}
use Rattle.values_simple.proofs.Laws.{Stands}
use Rattle.values_simple.proofs.put_each.Given as goal

abbrev pub invariant-loop-place : goal.invariant-loop-place
invariant-loop-place g l =
    Stands l.section l.bits l.fn.first.0 l.place-index l.reader
    × (l.run ≡ filled (λ k. g.B.Becomes.becomes l.own (numbers_from l.section l.bits l.fn.first.0 k)) 0 l.place-index l.initial.run)
