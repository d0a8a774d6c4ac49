-- `tiling::tile` meets its contract. The loop's invariant: the reading has come to where the locals say. The measure is what is left of the file.
use Prim.Native.Nat.{◌-◌}
use lib.ListN.{length}
use Rattle.tiling.proofs.Come.{Come}
use Rattle.tiling.proofs.tile.Given as goal

abbrev pub invariant-loop-at : goal.invariant-loop-at
invariant-loop-at l = Come l.file l.k l.at.0 l.messages l.fields l.found

abbrev pub decreases-loop-at : goal.decreases-loop-at
decreases-loop-at l = length l.file - l.at.0
