-- `question_point::integer_of` meets its contract: the integers of either template are the field's own, and those of simple packing are all in their range.
use mathlib.Core.Path.{ap, ◌∙◌}
use native.Mathlib.Omega.{arith}
use Rattle.std.specs.Prelude.{Some}
use Rattle.question.proofs.Known.{known_of, few_points, packed_most, groups_values}
use Rattle.question_point.proofs.Laws.{simple_single, groups_single}
use Rattle.question_point.proofs.integer_of.Goals as goal

pub integer_at-requires : goal.integer_at-requires
integer_at-requires c =
    let f = c.args.field in
    let known = known_of f in
    omega (arith, c.requires, packed_most f.file.now f.description known, few_points f.file.now f.description known)

pub integer_at-requires-in-Complex : goal.integer_at-requires-in-Complex
integer_at-requires-in-Complex c =
    let f = c.args.field in
    rw (c.grouped.ensures.0, c.grouped.ensures.1) (omega (arith, c.requires, groups_values f.file.now f.description (known_of f) c.in-Complex.is))

pub returns-in-Simple : goal.returns-in-Simple
returns-in-Simple c =
    let f = c.args.field in
    ap Some (rw (c.numbered.ensures.0, c.numbered.ensures.1) at c.integer_at.ensures) ∙ simple_single f.file.now f.description (known_of f) c.in-Simple.is c.requires

pub returns-in-Complex : goal.returns-in-Complex
returns-in-Complex c =
    let f = c.args.field in
    rw (c.grouped.ensures.0, c.grouped.ensures.1) at c.integer_at-in-Complex.ensures ∙ groups_single f.file.now f.description (known_of f) c.in-Complex.is c.args.m
