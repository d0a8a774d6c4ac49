-- `listing_file::put_line` meets its contract: a field's number, the answer about it and the end of the line are put one behind the other.
use native.Mathlib.Omega.{arith}
use Rattle.question.specs.Describe.{describe}
use Rattle.text.specs.Text.{ascii, decimal}
use Rattle.text.proofs.Pieces.{puts_four}
use Rattle.listing_file.specs.Listing.{answer_text, line_of}
use Rattle.listing_file.proofs.Laws.{line_short}
use Rattle.listing_file.proofs.put_line.Goals as goal

pub returns : goal.returns
unfolding line_of
returns c =
    let file = c.args.file.now in
    let k = c.args.k in
    puts_four c.args.run.now c.args.at (decimal k) (ascii " ") (answer_text (describe file k)) (ascii "\n")
    (omega (arith, c.requires, line_short file k))
    c.put_decimal-number.ensures c.put-answer.ensures (rw c.describe.ensures at c.put_answer-told.ensures) c.put.ensures
