-- `section_4::interval_at` meets its contract: both ends are times of the calendar.
use mathlib.Core.Path.{sym, ◌∙◌}
use Rattle.calendar.proofs.Laws.{read_is_gregorian}
use Rattle.section_4.proofs.Laws.{later_is_gregorian}
use Rattle.section_4.proofs.interval_at.Goals as goal

pub agreed-requires : goal.agreed-requires
agreed-requires c =
    let end = read_is_gregorian _ _ _ (sym c.time_at.ensures ∙ c.in_ok-end.was) in
    (end, later_is_gregorian _ _ c.held-count.result c.octet-2.result c.requires.1 (sym c.later.ensures ∙ c.in_ok-reached.was))
