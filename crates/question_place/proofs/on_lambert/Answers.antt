-- `question_place::on_lambert` meets its contract: the grid of a field that is described has few points.
use mathlib.Core.Path.{sym, ◌∙◌}
use Rattle.question.proofs.Laws.{described_grid}
use Rattle.question_place.proofs.on_lambert.Goals as goal

pub lambert_asked-requires : goal.lambert_asked-requires
lambert_asked-requires c = (described_grid c.args.file.now c.args.k (sym c.describe.ensures ∙ c.in_ok-description.was)).2
