-- `listing_lines::put_size` meets its contract: its three pieces are put one behind the other.
use native.Mathlib.Omega.{arith}
use Rattle.text.specs.Text.{ascii, decimal}
use Rattle.text.proofs.Pieces.{puts_three}
use Rattle.listing_lines.proofs.Laws.{size_short}
use Rattle.listing_lines.proofs.put_size.Goals as goal

pub returns : goal.returns
returns c =
    let f = c.args.frame in
    puts_three c.args.run.now c.args.at (decimal f.ni) (ascii "x") (decimal f.nj)
    (omega (arith, c.requires, size_short f))
    c.put_decimal-columns.ensures c.put-rows.ensures c.put_decimal.ensures
