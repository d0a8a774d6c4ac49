-- `values_largest::in_fours` meets its contract. The invariant: `largest` is that of so many fours, and the reader stands at the next.
use Rattle.std.proofs.Common.{◌≡◌, ◌*◌}
use Rattle.octets.specs.Places.{first_bit}
use Rattle.values_integers.specs.Integers.{simple_integer}
use Rattle.values_simple.proofs.Laws.{Stands}
use Rattle.values_largest.specs.Largest.{largest_of}
use Rattle.values_largest.proofs.in_fours.Given as goal

abbrev pub invariant-loop : goal.invariant-loop
invariant-loop l =
    Stands l.section l.bits (first_bit 6) (4 * l.counter) l.reader × (l.largest ≡ largest_of (simple_integer l.section l.bits) (4 * l.counter))
