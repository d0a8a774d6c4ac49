-- `listing_file::put_taken` meets its contract: the count of the fields and the lines are put one behind the other.
use native.Mathlib.Omega.{arith}
use Rattle.text.specs.Text.{ascii, decimal}
use Rattle.text.proofs.Pieces.{puts_three}
use Rattle.listing_file.specs.Listing.{lines_of}
use Rattle.listing_file.proofs.Laws.{taken_short}
use Rattle.listing_file.proofs.put_taken.Goals as goal

pub returns : goal.returns
returns c =
    let fields = c.args.fields in
    puts_three c.args.run.now 0 (decimal fields) (ascii " fields\n") (lines_of c.args.file.now fields)
    (omega (arith, c.requires, taken_short c.args.file.now fields))
    c.put_decimal-word.ensures c.put-first.ensures c.put_lines.ensures
