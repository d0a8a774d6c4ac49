-- `question::DescribedField::points` meets its contract: a field that is described has few points.
use Rattle.question.proofs.Known.{known_of, few_points}
use Rattle.question.proofs.DescribedField.points.Goals as goal

pub points_of-requires : goal.points_of-requires
points_of-requires c = let f = c.args.self.now in few_points f.file.now f.description (known_of f)

pub returns : goal.returns
returns c = let f = c.args.self.now in (c.points_of.ensures, rw (c.points_of.ensures) (few_points f.file.now f.description (known_of f)))
