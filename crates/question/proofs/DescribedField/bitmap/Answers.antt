-- `question::DescribedField::bitmap` meets its contract: the bitmap of a field that is described lies in the file.
use Rattle.question.proofs.Known.{known_of, bitmap_lies}
use Rattle.question.proofs.DescribedField.bitmap.Goals as goal

pub bitmap_in_force-requires : goal.bitmap_in_force-requires
bitmap_in_force-requires c = let f = c.args.self.now in rw c.points.ensures.0 (bitmap_lies f.file.now f.description (known_of f))
