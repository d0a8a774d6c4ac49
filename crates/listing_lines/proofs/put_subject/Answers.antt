-- `listing_lines::put_subject` meets its contract: its five pieces are put one behind the other.
use native.Mathlib.Omega.{arith}
use Rattle.text.specs.Text.{ascii, decimal}
use Rattle.text.proofs.Pieces.{puts_five}
use Rattle.listing_lines.proofs.Laws.{subject_short}
use Rattle.listing_lines.proofs.put_subject.Goals as goal

pub returns : goal.returns
returns c =
    let d = c.args.definition in
    puts_five c.args.run.now c.args.at (decimal c.args.discipline) (ascii "/") (decimal d.category) (ascii "/") (decimal d.parameter)
    (omega (arith, c.requires, subject_short c.args.discipline d))
    c.put_decimal-first.ensures c.put-category.ensures c.put_decimal-second.ensures c.put-parameter.ensures c.put_decimal.ensures
