-- `values_simple::fill` meets its contract. The invariant: the first `done` integers are written to the points that are present, and the block has its length,
-- and still its zeros where integers have no bits.
use mathlib.Core.Path.{◌≡◌}
use Prim.Native.Nat.{◌-◌, ◌≤◌}
use lib.ListN.{length}
use Rattle.laws_rows.specs.Rows.{row}
use Rattle.values_points.specs.Written.{marks_in, runs, Written}
use Rattle.values_integers.specs.Integers.{simple_integer}
use Rattle.values_simple.proofs.fill.Given as goal

abbrev pub invariant-loop-done : goal.invariant-loop-done
invariant-loop-done l =
    (l.done ≤ l.n) × (length l.block ≡ 56) × (l.numbered.bits ≡ 0 → l.block ≡ row (λ _. 0) 56) × (length l.values ≡ length l.initial.values) × (length l.presence ≡ length l.initial.presence)
    × Written (marks_in l.bitmap) l.packing (simple_integer l.numbered.section.now l.numbered.bits) l.done 0 l.point (runs l.initial.values l.initial.presence) (runs l.values l.presence)

abbrev pub decreases-loop-done : goal.decreases-loop-done
decreases-loop-done l = l.n - l.done
