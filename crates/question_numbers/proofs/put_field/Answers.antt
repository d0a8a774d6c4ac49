-- `question_numbers::put_field` meets its contract: four pieces are put one behind another.
use borrow.Author.Rules.{rules}
use mathlib.Core.List.{map, ◌∷◌, []}
use native.Mathlib.Omega.{arith}
use lib.IntN.{pos}
use Rattle.laws_rows.specs.Rows.{Puts}
use Rattle.text.proofs.Pieces.{puts_four}
use Rattle.question_numbers.specs.Numbers.{time_numbers, grid_numbers, definition_numbers}
use Rattle.question_numbers.proofs.Laws.{field_length}
use Rattle.question_numbers.proofs.put_field.Goals as goal

pub returns : goal.returns
returns c =
    let d = c.args.description in
    let reference = map pos (d.discipline ∷ d.identification.status ∷ []) in
    let first : Puts c.args.run.now 0 reference c.put-reference.new.run c.put-reference.result = search rules in
    puts_four c.args.run.now 0 reference (time_numbers d.identification.reference) (grid_numbers d.grid) (definition_numbers d.definition)
    (omega (arith, c.requires, field_length d))
    first
    (rw c.time_numbers.ensures at c.put-frame.ensures)
    c.put_grid-definition.ensures
    c.put_definition.ensures
