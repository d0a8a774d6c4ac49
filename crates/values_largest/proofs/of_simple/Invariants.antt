-- `values_largest::of_simple` meets its contract. The invariant: `largest` is that of the integers before the one at which the reader stands.
use Rattle.std.proofs.Common.{◌≡◌}
use Rattle.octets.specs.Places.{first_bit}
use Rattle.values_integers.specs.Integers.{simple_integer}
use Rattle.values_simple.proofs.Laws.{Stands}
use Rattle.values_largest.specs.Largest.{largest_of}
use Rattle.values_largest.proofs.of_simple.Given as goal

abbrev pub invariant-loop : goal.invariant-loop
invariant-loop l =
    Stands l.numbered.section.now l.numbered.bits (first_bit 6) l.counter l.reader × (l.largest ≡ largest_of (simple_integer l.numbered.section.now l.numbered.bits) l.counter)
