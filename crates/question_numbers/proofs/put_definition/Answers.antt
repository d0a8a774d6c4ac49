-- `question_numbers::put_definition` meets its contract: four pieces are put one behind another.
use borrow.Author.Rules.{rules}
use mathlib.Core.List.{map, ◌∷◌, []}
use native.Mathlib.Omega.{arith}
use lib.IntN.{pos}
use Rattle.laws_rows.specs.Rows.{Puts}
use Rattle.text.proofs.Pieces.{puts_four}
use Rattle.question_numbers.specs.Numbers.{time_numbers, level_numbers, product_numbers}
use Rattle.question_numbers.proofs.Laws.{definition_length}
use Rattle.question_numbers.proofs.put_definition.Goals as goal

pub returns : goal.returns
returns c =
    let d = c.args.definition in
    let subject = map pos (d.category ∷ d.parameter ∷ d.process ∷ d.surface ∷ []) in
    let first : Puts c.args.run.now c.args.at subject c.put-level.new.run c.put-level.result = search rules in
    puts_four c.args.run.now c.args.at subject (level_numbers d.level) (product_numbers d.product) (time_numbers d.valid)
    (omega (arith, c.requires, definition_length d))
    first
    (rw c.level_numbers.ensures at c.put-product.ensures)
    (rw c.product_numbers.ensures at c.put-valid.ensures)
    (rw c.time_numbers.ensures at c.put.ensures)
