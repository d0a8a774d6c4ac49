-- `question_point::value_by` meets its contract: the numbers of a field's packing are within their limits.
use Rattle.question.proofs.Known.{known_of, scaled}
use Rattle.question_point.proofs.value_by.Goals as goal

pub packing_of-packing-requires : goal.packing_of-packing-requires
packing_of-packing-requires c = let f = c.args.field in scaled f.file.now f.description (known_of f)
