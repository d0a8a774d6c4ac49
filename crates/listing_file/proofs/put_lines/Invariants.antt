-- `listing_file::put_lines` meets its contract. The invariant: the lines of the first `k` fields are put.
use Rattle.laws_rows.specs.Rows.{Puts}
use Rattle.listing_file.specs.Listing.{lines_of}
use Rattle.listing_file.proofs.put_lines.Given as goal

abbrev pub invariant-loop-k : goal.invariant-loop-k
invariant-loop-k l = Puts l.initial.run l.at (lines_of l.file l.k) l.run l.end
