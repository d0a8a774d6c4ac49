-- `question_picture::largest_of` meets its contract: the integers of either template are the field's own, and those of simple packing are all in their range.
use mathlib.Core.Path.{ap, ◌∙◌}
use native.Mathlib.Omega.{arith}
use Rattle.std.specs.Prelude.{Some}
use Rattle.question.proofs.Known.{known_of, few_points, packed_most}
use Rattle.question_picture.proofs.Laws.{simple_largest, groups_largest}
use Rattle.question_picture.proofs.largest_of.Goals as goal

pub of_simple-requires : goal.of_simple-requires
of_simple-requires c =
    let f = c.args.field in
    let known = known_of f in
    omega (arith, packed_most f.file.now f.description known, few_points f.file.now f.description known)

pub returns-in-Simple : goal.returns-in-Simple
returns-in-Simple c =
    let f = c.args.field in
    ap Some (rw (c.numbered.ensures.0, c.numbered.ensures.1) at c.of_simple.ensures) ∙ simple_largest f.file.now f.description (known_of f) c.in-Simple.is

pub returns-in-Complex : goal.returns-in-Complex
returns-in-Complex c =
    let f = c.args.field in
    rw (c.grouped.ensures.0, c.grouped.ensures.1) at c.of_complex.ensures ∙ groups_largest f.file.now f.description (known_of f) c.in-Complex.is
