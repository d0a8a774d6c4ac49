-- `tests_ask::order` is safe and ends: times that were read are Gregorian ones.
use mathlib.Core.Path.{sym, ◌∙◌}
use Rattle.calendar.proofs.Laws.{read_is_gregorian}
use Rattle.tests_ask.proofs.order.Goals as goal

pub compare-requires : goal.compare-requires
compare-requires g c = (
  read_is_gregorian _ _ _ (sym c.time_at.ensures ∙ c.in-Some.is),
  read_is_gregorian _ _ _ (sym c.time_at-2.ensures ∙ c.in-Some-time_at.is),
)
