-- `listing_file::print` meets its contract: the listing of what was read is that of the whole input.
use mathlib.Core.Path.{sym, refl}
use Rattle.listing_file.proofs.Laws.{read_listed}
use Rattle.listing_file.proofs.print.Goals as goal

pub returns-in-Some : goal.returns-in-Some
returns-in-Some c =
    rw c.in-Some.is (record {
      puts = λ whole read. rw (sym (read_listed whole c.args.run.now c.args.got c.requires.in_bounds read)) c.list-length.ensures;
      prints_to = refl;
    })
