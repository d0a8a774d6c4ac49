-- `doubles::rebuild_one` meets its contract: behind the test the packing record rebuilds X.
use mathlib.Core.Path.{sym, ◌∙◌}
use Rattle.doubles.specs.Doubles.{value_of}
use Rattle.doubles.proofs.rebuild_one.Goals as goal

pub returns : goal.returns
unfolding value_of
returns c = simp (sym c.is_rebuildable.ensures ∙ c.if-not-is_rebuildable.false, c.rebuild.ensures, c.packing_of.ensures)
