-- `listing_file::put_lines` meets its contract: the line of field `k` is put behind those of the fields before it.
use native.Mathlib.Numerals.{add-one}
use native.Mathlib.Omega.{arith}
use Rattle.laws_rows.proofs.Puts.{puts_then}
use Rattle.listing_file.specs.Listing.{line_of, lines_of}
use Rattle.listing_file.proofs.Laws.{line_short, lines_short}
use Rattle.listing_file.proofs.put_lines.Goals as goal

pub loop-k-preserved : goal.loop-k-preserved
unfolding lines_of
loop-k-preserved c =
    let file = c.args.file.now in
    let k = c.loop-k.k in
    rw add-one (
    puts_then c.args.run.now c.args.at (lines_of file k) (line_of file k)
    (omega (arith, c.requires, lines_short file k, line_short file k))
    c.loop-k.invariant c.put_line-end.ensures
    )
