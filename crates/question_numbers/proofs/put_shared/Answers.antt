-- `question_numbers::put_shared` meets its contract: four pieces are put one behind another, and they are 53 numbers in all.
use borrow.Author.Rules.{rules}
use mathlib.Core.List.{◌∷◌, []}
use native.Mathlib.Omega.{arith}
use lib.IntN.{pos}
use Rattle.laws_rows.specs.Rows.{Puts}
use Rattle.section_6.specs.Presence.{indicator_of}
use Rattle.text.proofs.Pieces.{puts_four}
use Rattle.question_numbers.specs.Numbers.{field_numbers, representation_numbers, start_numbers}
use Rattle.question_numbers.proofs.Laws.{shared_length}
use Rattle.question_numbers.proofs.put_shared.Goals as goal

pub returns : goal.returns
returns c =
    let d = c.args.description in
    let indicator = pos (indicator_of d.presence) ∷ [] in
    let third : Puts c.put-presence.new.run c.put-presence.result indicator c.put_one-starts.new.run c.put_one-starts.result = search rules in
    puts_four c.args.run.now 0 (field_numbers d) (representation_numbers d.representation) indicator (start_numbers d.starts)
    (omega (arith, c.requires, shared_length d))
    c.put_field-representation.ensures
    (rw c.representation_numbers.ensures at c.put-presence.ensures)
    third
    (rw c.start_numbers.ensures at c.put.ensures)
