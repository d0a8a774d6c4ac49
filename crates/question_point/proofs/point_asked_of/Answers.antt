-- `question_point::point_asked_of` meets its contract: a field that is described has few points.
use Rattle.question.proofs.Known.{known_of, few_points}
use Rattle.question_point.proofs.point_asked_of.Goals as goal

pub point_asked-requires : goal.point_asked-requires
point_asked-requires c = let f = c.args.field in few_points f.file.now f.description (known_of f)
