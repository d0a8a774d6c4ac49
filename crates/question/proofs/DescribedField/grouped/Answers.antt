-- `question::DescribedField::grouped` meets its contract: the groups of a field that is described are sound.
use Rattle.question.proofs.Known.{known_of, groups_sound}
use Rattle.question.proofs.DescribedField.grouped.Goals as goal

pub invariant_of-result : goal.invariant_of-result
invariant_of-result c =
    let f = c.args.self.now in
    record { sound = rw c.packed.ensures (groups_sound f.file.now f.description (known_of f) c.requires) }
