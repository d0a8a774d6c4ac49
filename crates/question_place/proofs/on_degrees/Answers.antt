-- `question_place::on_degrees` meets its contract: the grid of a field that is described has few points.
use mathlib.Core.Path.{sym, ◌∙◌}
use Rattle.question.proofs.Laws.{described_grid}
use Rattle.question_place.proofs.on_degrees.Goals as goal

pub degrees_asked-requires : goal.degrees_asked-requires
degrees_asked-requires c = (described_grid c.args.file.now c.args.k (sym c.describe.ensures ∙ c.in_ok-description.was)).2
