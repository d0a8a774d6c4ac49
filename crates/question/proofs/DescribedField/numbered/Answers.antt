-- `question::DescribedField::numbered` meets its contract: the numbers of a field that is described have few bits.
use Rattle.question.proofs.Known.{known_of, bits_fit}
use Rattle.question.proofs.DescribedField.numbered.Goals as goal

pub invariant_of-result : goal.invariant_of-result
invariant_of-result c = let f = c.args.self.now in record { fits = bits_fit f.file.now f.description (known_of f) }
