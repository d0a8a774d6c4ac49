-- `question::described_at` meets its contract: the times of section 4 are counted from the reference time of section 1, which is one of the calendar.
use mathlib.Core.Path.{sym, ap, ◌∙◌}
use Rattle.std.specs.Result.{result_ok}
use Rattle.section_1.proofs.Laws.{identified_gregorian}
use Rattle.question.proofs.described_at.Goals as goal

pub product_definition_at-requires : goal.product_definition_at-requires
product_definition_at-requires c =
    let taken = c.ok_or.ensures.ok_part ∙ ap result_ok c.in_ok-identification.was in
    identified_gregorian _ _ (sym c.identification_at.ensures ∙ taken)
