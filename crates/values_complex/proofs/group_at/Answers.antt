-- `values_complex::group_at` meets its contract: what is read are the width, the length and the reference of group i, whose bounds hold since the groups
-- are sound.
use Prim.Native.Nat.{◌+◌, ◌*◌, ◌^◌, ◌≤◌, ◌<◌}
use mathlib.Core.Path.{sym}
use native.Mathlib.Omega.{arith}
use Rattle.values_complex.proofs.Bounds.{skipped_within, skipped_bits, values_fit, end_low, start_more}
use Rattle.values_complex.proofs.group_at.Goals.{After-length_of-length, After-skipped-skip}
use Rattle.values_complex.proofs.group_at.Goals as goal

-- The values up to the end of the group are few.
values : (c : After-length_of-length) → c.args.start.values + c.length_of-length.result ≤ 16777216
values c =
    rw (c.requires.start_value, c.length_of-length.ensures.0) (values_fit _ _ c.args.grouped.now.sound c.requires.within)

-- The place of the bit behind it is low.
end : (c : After-length_of-length) → c.args.start.bit.0 + c.width_of-width.result * c.length_of-length.result < 2 ^ 40
end c =
    rw (c.requires.start_value, c.width_of-width.ensures, c.length_of-length.ensures.0) (omega (arith, end_low _ _ c.args.grouped.now.sound c.requires.within))

-- No more is skipped than the group has, in values and in bits.
skips : (c : After-skipped-skip) →
    let skip = c.skipped-skip.result in
    let width = c.width_of-width.result in
    let length = c.length_of-length.result in
    (skip ≤ length) × (skip * width ≤ width * length)
skips c = rw c.skipped-skip.ensures (skipped_within _ _, skipped_bits _ _ _)

pub overflow_add-result : goal.overflow_add-result
overflow_add-result c =
    omega (arith, end (goal.at.overflow_add-result c).After-length_of-length, skips (goal.at.overflow_add-result c).After-skipped-skip)

pub overflow_add-result-3 : goal.overflow_add-result-3
overflow_add-result-3 c = omega (arith, values (goal.at.overflow_add-result-3 c).After-length_of-length)

pub overflow_mul-result-2 : goal.overflow_mul-result-2
overflow_mul-result-2 c = omega (arith, end (goal.at.overflow_mul-result-2 c).After-length_of-length)

pub overflow_add-result-4 : goal.overflow_add-result-4
overflow_add-result-4 c = omega (arith, end (goal.at.overflow_add-result-4 c).After-length_of-length)

pub returns : goal.returns
returns c =
    let g = c.args.grouped.now in
    let a = c.args in
    let width = c.width_of-width.ensures in
    let length = c.length_of-length.ensures.0 in
    let reference = c.stored-reference.ensures.0 in
    let skip = c.skipped-skip.ensures in (
      rw (skip, c.requires.start_value, width, length, reference, c.raised_by.ensures, c.lowered_by.ensures),
      rw (c.requires.start_value, width, length) (sym (start_more g.section.now g.groups a.i)),
    )
