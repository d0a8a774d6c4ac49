-- `values_complex::write_group` meets its contract. The invariant: the first `done` integers of the group are written to the next points that are
-- present, `latest` has the last two of them, and the block has its length.
use mathlib.Core.Path.{◌≡◌, refl, sym, ap, ◌∙◌}
use Prim.Native.Nat.{◌+◌, ◌-◌, ◌≤◌}
use native.Mathlib.Omega.{arith}
use borrow.Rule.Slice.PartMut.{put_mid, same_len_mid}
use lib.ListN.{length, take}
use Rattle.laws_rows.proofs.Laws.{row_length}
use Rattle.values_points.specs.Written.{marks_in, runs, integers_in}
use Rattle.values_points.proofs.Marks.{ranked}
use Rattle.values_points.proofs.Blocks.{block_within, part_length, part_back}
use Rattle.values_points.proofs.Laws.{written_none, written_then}
use Rattle.values_group.specs.Group.{worked_by, integers_of, behind}
use Rattle.values_group.proofs.Left.{behind_kept, limits_on}
use Rattle.values_complex.proofs.Blocks.{next_kept, block_integers}
use Rattle.values_complex.proofs.write_group.Goals.{After-block_length-n, After-unpack-latest}
use Rattle.values_complex.proofs.write_group.Goals as goal

pub loop-done-init : goal.loop-done-init
unfolding worked_by
loop-done-init c =
    let a = c.args in (
      omega arith,
      c.requires.block_len,
      c.requires.room.1.0,
      refl,
      refl,
      refl,
      written_none (marks_in a.bitmap.now) (ranked a.bitmap.now).more a.packing (integers_of a.section.now a.group a.reached.latest) a.reached.point (runs a.values.now a.presence.now)
          c.requires.room.1.0,
    )

-- The integers of the next block: at least one, at most 56, and among those that are left; the part of the block that is lent for them has as many elements.
few : (c : After-block_length-n) →
    let l = c.loop-done in
    let n = c.block_length-n.result in
    (n ≤ c.args.group.count - l.done) × (n ≤ 56) × (1 ≤ n) × (length (take (n - 0) l.block) ≡ n)
few c =
    let l = c.loop-done in
    let within = block_within (c.args.group.count - l.done) c.block_length-n.ensures (omega (arith, c.loop-done-test.true)) in
    (within.0, within.1, within.2, part_length l.block (omega (arith, within.1, l.invariant.1)))

pub unpack-latest-requires-clause-limits : goal.unpack-latest-requires-clause-limits
unpack-latest-requires-clause-limits c =
    let l = c.loop-done in
    let part = few (goal.at.unpack-latest-requires-clause-limits c).After-block_length-n in
    (limits_on c.args.section.now c.args.group c.args.reached.latest l.done l.invariant.5 c.requires.limits.0, omega (arith, part, l.invariant.0))

pub unpack-latest-requires-clause-group_kept : goal.unpack-latest-requires-clause-group_kept
unpack-latest-requires-clause-group_kept c =
    let l = c.loop-done in
    let a = c.args in
    let part = few (goal.at.unpack-latest-requires-clause-group_kept c).After-block_length-n in
    next_kept a.section.now a.group a.reached.latest l.done l.invariant.5 c.requires.limits.0 c.requires.limits.1 _ (omega (arith, part, l.invariant.0))

-- The block comes back with the next integers, as long as it was, and what is written next is the part that came back.
returned : (c : After-unpack-latest) →
    let n = c.block_length-n.result in
    let block = put_mid 0 (n - 0) c.loop-done.block c.unpack-latest.new.block in
    (length c.unpack-latest.new.block ≡ n) × (length block ≡ 56) × (take (n - 0) block ≡ c.unpack-latest.new.block)
returned c =
    let l = c.loop-done in
    let a = c.args in
    let n = c.block_length-n.result in
    let within = block_within (a.group.count - l.done) c.block_length-n.ensures (omega (arith, c.loop-done-test.true)) in
    let lent = part_length l.block (omega (arith, within.1, l.invariant.1)) in
    let long =
    ap length c.unpack-latest.ensures.block_after ∙ row_length (integers_of a.section.now (behind a.group l.done) l.latest) (length (take (n - 0) l.block)) ∙ lent in
    (long, same_len_mid 0 (n - 0) l.block c.unpack-latest.new.block (long ∙ sym lent) ∙ l.invariant.1, part_back l.block c.unpack-latest.new.block long)

pub loop-done-preserved : goal.loop-done-preserved
loop-done-preserved c =
    let l = c.loop-done in
    let a = c.args in
    let n = c.block_length-n.result in
    let run = a.section.now in
    let from = a.reached.latest in
    let at = goal.at.loop-done-preserved c in
    let next = few at.After-block_length-n in
    let back = returned at.After-unpack-latest in
    let part = c.unpack-latest.new.block in
    let inside : l.done + n ≤ a.group.count = omega (arith, next.0, l.invariant.0) in
    let told = rw next.3 at c.unpack-latest.ensures in
    let written = rw (back.2, back.0) at c.write-point.ensures in
    let same = block_integers run a.group from l.done l.invariant.5 c.requires.limits.0 c.requires.limits.1 n part inside told.block_after in (
      inside,
      back.1,
      omega (arith, written.past.within, l.invariant.3),
      omega (arith, c.write-point.auto, l.invariant.3),
      omega (arith, c.write-point.auto, l.invariant.4),
      sym (behind_kept run a.group from l.done l.invariant.5 n) ∙ told.group_goes,
      written_then (marks_in a.bitmap.now) (ranked a.bitmap.now).more a.packing (integers_of run a.group from) (integers_in part) l.invariant.6 written same,
    )
