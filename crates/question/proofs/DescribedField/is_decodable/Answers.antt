-- `question::DescribedField::is_decodable` meets its contract: numbers of at most 31 bits are in their range, and those of groups are judged, as many as are packed.
use mathlib.Core.Path.{sym, ap, ◌∙◌}
use Rattle.values_integers.specs.Integers.{are_in_range}
use Rattle.values_complex.specs.Complex.{integer_in}
use Rattle.question.proofs.Known.{known_of, run, simple_decodable, groups_values, groups_decodable}
use Rattle.question.proofs.DescribedField.is_decodable.Goals as goal

pub is_in_range-requires : goal.is_in_range-requires
is_in_range-requires c =
    let f = c.args.self.now in
    rw (c.grouped.ensures.0, c.grouped.ensures.1) (sym (groups_values f.file.now f.description (known_of f) c.in-Complex.is))

pub returns-in-Simple : goal.returns-in-Simple
returns-in-Simple c = let f = c.args.self.now in sym (simple_decodable f.file.now f.description (known_of f) c.in-Simple.is)

pub returns-in-Complex : goal.returns-in-Complex
returns-in-Complex c =
    let f = c.args.self.now in
    let known = known_of f in
    rw (c.grouped.ensures.0, c.grouped.ensures.1) at c.is_in_range.ensures
    ∙ ap (are_in_range (integer_in (run f.file.now f.description known) c.in-Complex.groups)) (sym (groups_values f.file.now f.description known c.in-Complex.is))
    ∙ groups_decodable f.file.now f.description known c.in-Complex.is
