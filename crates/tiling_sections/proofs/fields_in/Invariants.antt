-- `tiling_sections::fields_in` meets its contract. The loop's invariant: the walk over the message's sections has reached its progress. The
-- measure is what is left of the sections.
use Prim.Native.Nat.{◌-◌}
use Rattle.tiling_sections.proofs.Reached.{Reached}
use Rattle.tiling_sections.proofs.fields_in.Given as goal

abbrev pub invariant-loop-found : goal.invariant-loop-found
invariant-loop-found l =
    Reached l.file l.fn.message.0 l.end.0 l.k (record { at = l.at; after = l.after; fields = l.count; starts = l.starts; bitmap = l.bitmap; hit = l.hit })

abbrev pub decreases-loop-found : goal.decreases-loop-found
decreases-loop-found l = l.end.0 - l.at.0
