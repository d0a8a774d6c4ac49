-- `values_greys::put_complex` meets its contract. The invariant: i groups are passed, in the run that has the first two greys.
use mathlib.Core.Path.{◌≡◌, refl, sym, ◌∙◌}
use Prim.Native.Nat.{ℕ, ◌+◌, ◌-◌, ◌≤◌}
use native.Mathlib.Omega.{arith}
use borrow.Rule.Slice.PartMut.{mid_len}
use lib.ListN.{length, set, take, drop, length-set}
use Rattle.laws_rows.proofs.Laws.{filled_further, filled_whole}
use Rattle.values_complex.specs.Complex.{values_in, size_in}
use Rattle.values_complex.proofs.Turns.{kept_limits}
use Rattle.values_greys.specs.Packed.{packed_grey}
use Rattle.values_greys.proofs.Laws.{grey_asked}
use Rattle.values_greys.proofs.Passed.{first_size, second_size, two_greyed, passed_length, passed_none, passed_all, next_room, next_kept, next_below, passed_more}
use Rattle.values_greys.proofs.put_complex.Goals.{After-group_at-met, At-loop-i}
use Rattle.values_greys.proofs.put_complex.Goals as goal

pub grey_of-requires : goal.grey_of-requires
grey_of-requires c =
    let g = c.args.grouped in
    grey_asked c.args.scale 0 c.requires.scaled_to (first_size g.section.now g.groups) (omega (arith, g.sound.two_values))

pub grey_of-requires-2 : goal.grey_of-requires-2
grey_of-requires-2 c =
    let g = c.args.grouped in
    grey_asked c.args.scale 1 c.requires.scaled_to (second_size g.section.now g.groups) (omega (arith, g.sound.two_values))

pub loop-i-init : goal.loop-i-init
loop-i-init c =
    let g = c.args.grouped in
    passed_none g.section.now g.groups c.args.scale g.sound c.requires.all_in_range _ c.first_bit-bit.ensures

-- The run with the first two greys is as long as the one that was lent: one octet for each value.
long : (c : At-loop-i) →
    values_in c.args.grouped.section.now c.args.grouped.groups ≡ length (set (set c.args.greys.now 0 c.grey_of.result) 1 c.grey_of-2.result)
long c = rw (length-set, length-set) (sym c.requires.greys_value)

-- The group's stretch lies in the run, which is not long.
fits : (c : After-group_at-met) →
    let end = c.loop-i.done + c.group_at-met.result.group.count in
    (end ≤ length c.loop-i.greys) × (end ≤ 16777216)
fits c =
    let g = c.args.grouped in
    let a = c.args in
    let room = next_room g.section.now g.groups a.scale g.sound c.requires.all_in_range c.loop-i.invariant c.loop-i-test.true in
    let whole : values_in g.section.now g.groups ≡ length (set (set a.greys.now 0 c.grey_of.result) 1 c.grey_of-2.result) = rw (length-set, length-set) (sym c.requires.greys_value) in
    rw c.group_at-met.ensures.0
    (omega (arith, room, whole, passed_length g.section.now g.groups a.scale c.loop-i.invariant, g.sound.few_values))

pub overflow_add-end : goal.overflow_add-end
overflow_add-end c = omega (arith, (fits (goal.at.overflow_add-end c).After-group_at-met).1)

pub slice_bounds-put-end : goal.slice_bounds-put-end
slice_bounds-put-end c = (fits (goal.at.slice_bounds-put-end c).After-group_at-met).0

-- The group's stretch has an octet for each of its integers.
stretch : (c : After-group_at-met) →
    let done = c.loop-i.done in
    let count = c.group_at-met.result.group.count in
    length (take (done + count - done) (drop done c.loop-i.greys)) ≡ count
stretch c =
    let done = c.loop-i.done in
    let count = c.group_at-met.result.group.count in
    let same : done + count - done ≡ count = omega arith in
    mid_len done (done + count) c.loop-i.greys (fits c).0 ∙ same

pub put-latest-requires : goal.put-latest-requires
put-latest-requires c =
    let g = c.args.grouped in
    let a = c.args in
    let run = g.section.now in
    let p = c.loop-i.invariant in
    let here = c.loop-i-test.true in
    let below = next_below run g.groups a.scale g.sound c.requires.all_in_range p here c.requires.scaled_to.1 in
    rw (stretch (goal.at.put-latest-requires c).After-group_at-met, c.group_at-met.ensures.0) (record {
      limits = (kept_limits run g.groups _ p.kept here g.sound, omega arith);
      group_kept = next_kept run g.groups a.scale g.sound c.requires.all_in_range p here;
      taken = λ k h. (c.requires.scaled_to.0, below k h);
    })

pub loop-i-preserved : goal.loop-i-preserved
loop-i-preserved c =
    let g = c.args.grouped in
    let a = c.args in
    let told = rw (stretch (goal.at.loop-i-preserved c).After-group_at-met, c.group_at-met.ensures.0) at c.put-latest.ensures in
    rw c.group_at-met.ensures.0
    (passed_more g.section.now g.groups a.scale g.sound c.requires.all_in_range c.loop-i.invariant c.loop-i-test.true (long (goal.at.loop-i-preserved c).At-loop-i)
    c.group_at-met.ensures.1 told.group_goes told.run_after)

pub returns : goal.returns
returns c =
    let g = c.args.grouped in
    let a = c.args in
    let run = g.section.now in
    let n = length a.greys.now in
    let f : ℕ → ℕ = packed_grey a.scale (size_in run g.groups) in
    let more : 2 ≤ n = omega (arith, g.sound.two_values, c.requires.greys_value) in
    let two = two_greyed run g.groups a.scale a.greys.now c.grey_of.ensures c.grey_of-2.ensures in
    let all = passed_all run g.groups a.scale g.sound c.requires.all_in_range c.loop-i.invariant c.loop-i-test.false ∙ sym c.requires.greys_value in
    filled_further f a.greys.now _ c.loop-i.greys more two (rw all at c.loop-i.invariant.greyed) ∙ filled_whole f n a.greys.now refl
