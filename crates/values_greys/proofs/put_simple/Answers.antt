-- `values_greys::put_simple` meets its contract: integers of no bits are all 0, and have the grey 1.
use mathlib.Core.Path.{◌∙◌}
use lib.ListN.{length}
use Rattle.laws_rows.proofs.Laws.{row_same}
use Rattle.values_integers.specs.Integers.{simple_integer}
use Rattle.values_greys.specs.Packed.{packed_grey}
use Rattle.values_greys.proofs.Laws.{no_bits_grey}
use Rattle.values_greys.proofs.put_simple.Goals as goal

pub returns-then-numbered-eq0 : goal.returns-then-numbered-eq0
returns-then-numbered-eq0 c =
    let a = c.args in
    c.put_ones.ensures
    ∙ row_same (λ _. 1) (packed_grey a.scale (simple_integer a.numbered.section.now a.numbered.bits)) (length a.greys.now) (λ m _. no_bits_grey a.numbered.section.now a.scale c.if-numbered-eq0.true m)
