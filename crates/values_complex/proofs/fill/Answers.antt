-- `values_complex::fill` meets its contract. The invariant: i groups are passed, in the runs that came in. It has no name for those, so it says that there are
-- such runs, as long as the loop's. The block that goes around keeps its length.
use mathlib.Core.Path.{◌≡◌, refl, sym, ap, ◌∙◌}
use Prim.Native.Nat.{◌%◌}
use native.Mathlib.Omega.{arith}
use lib.ListN.{length}
use Rattle.values_points.specs.Written.{marks_in, runs}
use Rattle.values_points.proofs.Marks.{ranked}
use Rattle.values_points.proofs.Laws.{past_lengths}
use Rattle.values_points.proofs.Missing.{cleared_filled}
use Rattle.values_complex.specs.Complex.{size_in}
use Rattle.values_complex.proofs.Joined.{two_fit}
use Rattle.values_complex.proofs.Passed.{passed_none, next_kept, passed_more, all_written, next_room}
use Rattle.values_complex.proofs.Turns.{kept_limits}
use Rattle.values_complex.proofs.fill.Goals.{At-loop-i}
use Rattle.values_complex.proofs.fill.Goals as goal

-- The runs are as long as those that were lent, in the loop and in what it keeps.
lengths : (c : At-loop-i) →
    let n = length c.args.values.now in
    (length c.loop-i.values ≡ n) × (length c.loop-i.presence ≡ n) × (length c.loop-i.invariant.0.doubles ≡ n) × (length c.loop-i.invariant.0.marks ≡ n)
lengths c =
    let bitmap = c.args.bitmap.now in
    omega (arith, past_lengths (marks_in bitmap) (ranked bitmap).more c.loop-i.invariant.4.written, c.requires.room)

pub write-point-requires-clause-points_left : goal.write-point-requires-clause-points_left
write-point-requires-clause-points_left c =
    ((omega arith, omega (arith, c.requires.groups_value, c.args.grouped.sound.two_values, (ranked c.args.bitmap.now).none)), omega arith)

pub loop-i-init : goal.loop-i-init
loop-i-init c =
    let g = c.args.grouped in
    let bitmap = c.args.bitmap.now in
    let d = g.groups.differencing in
    let fit = two_fit g.section.now g.groups g.sound c.requires.all_in_range in
    let first : d.first % 2147483648 ≡ d.first = omega (arith, fit.0) in
    let second : d.second % 2147483648 ≡ d.second = omega (arith, fit.1) in
    rw c.first_bit-bit.ensures (
      runs c.args.values.now c.args.presence.now,
      omega arith,
      omega arith,
      refl,
      passed_none g.section.now g.groups g.sound c.requires.all_in_range (ranked bitmap) first second c.write-point.ensures,
    )

pub write_group-reached-requires-clause-limits : goal.write_group-reached-requires-clause-limits
write_group-reached-requires-clause-limits c =
    let g = c.args.grouped in
    let passed = c.loop-i.invariant.4 in
    rw c.group_at-met.ensures.0 (
      kept_limits g.section.now g.groups _ passed.kept c.loop-i-test.true g.sound,
      next_kept g.section.now g.groups g.sound c.requires.all_in_range (ranked c.args.bitmap.now) passed c.loop-i-test.true,
    )

pub write_group-reached-requires-clause-room : goal.write_group-reached-requires-clause-room
write_group-reached-requires-clause-room c =
    let g = c.args.grouped in
    let bitmap = c.args.bitmap.now in
    let passed = c.loop-i.invariant.4 in
    let long = lengths (goal.at.write_group-reached-requires-clause-room c).At-loop-i in
    let room = next_room g.section.now g.groups g.sound c.requires.all_in_range (ranked bitmap) passed c.loop-i-test.true in
    rw c.group_at-met.ensures.0 (
      (omega (arith, long), omega (arith, long, c.requires.room.1), λ some. omega (arith, long, c.requires.room.2 some)),
      (omega (arith, long, passed.written.within), omega (arith, room, c.requires.groups_value, ap (marks_in bitmap).rank long.0)),
    )

pub loop-i-preserved : goal.loop-i-preserved
loop-i-preserved c =
    let g = c.args.grouped in
    let group = c.group_at-met.ensures.0 in (
      c.loop-i.invariant.0,
      c.loop-i.invariant.1,
      c.loop-i.invariant.2,
      omega (arith, c.write_group-reached.auto, c.loop-i.invariant.3),
      passed_more g.section.now g.groups g.sound c.requires.all_in_range (ranked c.args.bitmap.now) c.loop-i.invariant.4 c.loop-i-test.true
          c.group_at-met.ensures.1 (rw group at c.write_group-reached.ensures.group_goes) (rw group at c.write_group-reached.ensures.group_written),
    )

pub returns : goal.returns
returns c =
    let g = c.args.grouped in
    let bitmap = c.args.bitmap.now in
    let passed = c.loop-i.invariant.4 in
    let long = lengths (goal.at.returns c).At-loop-i in
    let all = all_written g.section.now g.groups g.sound c.requires.all_in_range (ranked bitmap) passed c.loop-i-test.false in
    let ranks = ap (marks_in bitmap).rank long.2 ∙ sym c.requires.groups_value ∙ sym all in
    rw long.2 at
    (cleared_filled (marks_in bitmap) (ranked bitmap) c.args.packing (size_in g.section.now g.groups) passed.written c.clear_missing.ensures ranks
    (long.3 ∙ sym long.2))
