-- `text::spell` meets its contract. The invariant: what `rest` is spelt by, and then the digits from `i` on, spell the number.
use mathlib.Core.Path.{◌≡◌}
use mathlib.Core.List.{◌++◌}
use lib.ListN.{length, drop}
use Rattle.text.specs.Text.{spelt, decimal}
use Rattle.text.proofs.spell.Given as goal

abbrev pub invariant-loop-i : goal.invariant-loop-i
invariant-loop-i l = (length l.digits ≡ 20) × (spelt l.i l.rest ++ drop l.i l.digits ≡ decimal l.n)
