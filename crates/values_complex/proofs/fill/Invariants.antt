-- `values_complex::fill` meets its contract. The invariant: i groups are passed, in the runs that came in. It has no name for those, so it says that there are
-- such runs, as long as the loop's. The block that goes around keeps its length.
use mathlib.Core.Path.{◌≡◌}
use lib.ListN.{length}
use Rattle.values_points.specs.Written.{marks_in, Runs, runs}
use Rattle.values_complex.proofs.Passed.{Passed}
use Rattle.values_complex.proofs.fill.Given as goal

abbrev pub invariant-loop-i : goal.invariant-loop-i
invariant-loop-i l =
    (a : Runs) × (length a.doubles ≡ length l.initial.values) × (length a.marks ≡ length l.initial.presence) × (length l.block ≡ 56)
    × Passed l.grouped.section.now l.grouped.groups (marks_in l.bitmap) l.packing a l.i l.reached l.start (runs l.values l.presence)
