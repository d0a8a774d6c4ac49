-- `tests_ask::later` is safe and ends: a time that was read is a Gregorian one.
use mathlib.Core.Path.{sym, ◌∙◌}
use Rattle.calendar.proofs.Laws.{read_is_gregorian}
use Rattle.tests_ask.proofs.later.Goals as goal

pub plus-requires : goal.plus-requires
plus-requires g c = read_is_gregorian _ _ _ (sym c.time_at.ensures ∙ c.in-Some.is)
