-- `listing_lines::put_refusal` meets its contract: its four pieces are put one behind the other.
use native.Mathlib.Omega.{arith}
use Rattle.refusals.specs.Refusals.{number_of}
use Rattle.text.specs.Text.{ascii, decimal}
use Rattle.text.proofs.Pieces.{puts_four}
use Rattle.listing_lines.proofs.Laws.{refusal_short}
use Rattle.listing_lines.proofs.put_refusal.Goals as goal

pub returns : goal.returns
returns c =
    let r = c.args.refusal in
    puts_four c.args.run.now c.args.at (ascii "refused ") (decimal (number_of r.why)) (ascii " at ") (decimal r.place.0)
    (omega (arith, c.requires, refusal_short r))
    c.put-number.ensures (rw c.number_of.ensures at c.put_decimal-word.ensures) c.put-place.ensures c.put_decimal.ensures
