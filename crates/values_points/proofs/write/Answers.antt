-- `values_points::write` meets its contract: points that are all present are the next that are present, and else each is looked for.
use mathlib.Core.Path.{sym, ◌∙◌}
use Prim.Native.Nat.{◌+◌}
use native.Mathlib.Omega.{arith}
use lib.ListN.{length}
use Rattle.values_points.specs.Written.{marks_in, integers_in}
use Rattle.values_points.proofs.Marks.{ranked}
use Rattle.values_points.proofs.Present.{Present, told_present, present_within, all_by_marks}
use Rattle.values_points.proofs.write.Goals.{Then-are_present}
use Rattle.values_points.proofs.write.Goals as goal

-- The points that the test tells of are present.
told : (c : Then-are_present) → let a = c.args in Present (marks_in a.bitmap.now) a.point (a.point + length a.block.now)
told c =
    let a = c.args in
    told_present a.bitmap.now a.point (length a.block.now) (sym c.are_present.ensures ∙ c.if-are_present.true)

pub write_all-requires : goal.write_all-requires
write_all-requires c =
    let a = c.args in
    let run = a.bitmap.now in
    let inside = present_within (marks_in run) (ranked run) a.point (length a.block.now) (length a.values.now) c.requires.points_left.0.0 c.requires.points_left.0.1 (told (goal.at.write_all-requires c).Then-are_present) in
    (omega arith, omega arith, omega (arith, inside))

pub returns-then-are_present : goal.returns-then-are_present
returns-then-are_present c =
    let a = c.args in
    all_by_marks (marks_in a.bitmap.now) (ranked a.bitmap.now) a.packing (integers_in a.block.now) c.write_all.ensures (told (goal.at.returns-then-are_present c).Then-are_present)
