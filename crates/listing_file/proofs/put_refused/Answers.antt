-- `listing_file::put_refused` meets its contract: the refusal is put, and the end of the line behind it.
use native.Mathlib.Omega.{arith}
use Rattle.text.specs.Text.{ascii}
use Rattle.laws_rows.proofs.Puts.{puts_then}
use Rattle.listing_lines.specs.Lines.{refusal_text}
use Rattle.listing_lines.proofs.Laws.{refusal_short}
use Rattle.listing_file.proofs.put_refused.Goals as goal

pub returns : goal.returns
returns c =
    let r = c.args.refusal in
    puts_then c.args.run.now 0 (refusal_text r) (ascii "\n") (omega (arith, c.requires, refusal_short r)) c.put_refusal-told.ensures c.put.ensures
