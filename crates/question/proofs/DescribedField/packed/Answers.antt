-- `question::DescribedField::packed` meets its contract: section 7 of a field that is described lies in the file.
use Rattle.question.proofs.Known.{known_of, seven_lies}
use Rattle.question.proofs.DescribedField.packed.Goals as goal

pub invariant_of-octets : goal.invariant_of-octets
invariant_of-octets c = let f = c.args.self.now in record { lies = seven_lies f.file.now f.description (known_of f) }
