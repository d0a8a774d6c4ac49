-- `listing::main` is safe and ends: its runs are as long as `print` asks, and what is printed lies inside the text that it is put into.
use mathlib.Core.Path.{sym}
use lib.ListN.{replicate, length-replicate}
use lib.Seq.{length-take-le}
use native.Mathlib.Nat.{le_of_eq}
use Rattle.std.proofs.Common.{◌≡◌, length, ℕ}
use Rattle.listing_file.proofs.Laws.{print_inside}
use Rattle.listing.proofs.main.Goals as goal

-- So many zeros are as many as that: a law, since counting them one by one takes a gigabyte of the checker's stack.
zeros : (n : ℕ) → n ≡ length (replicate {A = ℕ} n 0)
zeros n = sym (length-replicate n 0)

pub slice_bounds-print-end : goal.slice_bounds-print-end
slice_bounds-print-end c = zeros 655360

pub print-printout-requires-clause-in_bounds_2 : goal.print-printout-requires-clause-in_bounds_2
print-printout-requires-clause-in_bounds_2 c = le_of_eq (zeros 655360)

pub slice_bounds-text-end : goal.slice_bounds-text-end
slice_bounds-text-end c = print_inside c.print-printout.ensures

pub slice_bounds-told-end : goal.slice_bounds-told-end
slice_bounds-told-end c = sym (length-take-le _ _ (print_inside c.print-printout.ensures))
