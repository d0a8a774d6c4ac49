-- What the loops over a field's groups turn on: the limits of a group, and how far the first pass has come.
use mathlib.Core.List.{List}
use mathlib.Core.Path.{◌≡◌, refl, sym, ap, ◌∙◌}
use Prim.Native.Nat.{ℕ, ◌+◌, ◌-◌, ◌≤◌, ◌<◌}
use native.Mathlib.Nat.{add-zero, mul-le-mul_right}
use native.Mathlib.Omega.{arith}
use borrow.Author.Tests.{ltb-true, ltb-false}
use lib.Dec.{ltb}
use Rattle.octets.specs.Places.{first_bit}
use Rattle.octets.proofs.Cases.{split}
use Rattle.section_7.specs.declared.Groups.{Groups}
use Rattle.section_7.specs.Packing.{values_before, bits_before}
use Rattle.values_group.specs.declared.Group.{Group}
use Rattle.std.specs.Prelude.{Option, Some, None}
use Rattle.values_group.specs.declared.Latest.{Latest}
use Rattle.values_group.specs.Group.{most_x, Limits, worked_by}
use Rattle.values_integers.specs.Integers.{stored_at}
use Rattle.values_integers.proofs.Joined.{worked_sound}
use Rattle.values_complex.specs.declared.Start.{Start}
use Rattle.values_complex.specs.Complex.{start_of, group_at, first_of, values_in, worked_in, Sound}
use Rattle.values_complex.proofs.Bounds.{group_limits}
use Rattle.values_complex.proofs.Joined.{group_worked, group_ends, first_kept, first_worked, out_later}
use Rattle.values_complex.proofs.Passed.{worked_before}

-- A group and what is kept before it are within the limits of the recurrence.
pub kept_limits : (run : List ℕ) (g : Groups) (m : ℕ) {i : ℕ} {latest : Latest} → worked_in run g m ≡ Some latest → i < g.grouping.groups → Sound run g → Limits (group_at run g i) latest
kept_limits run g m {i} kept h sound =
    let integers = worked_sound g.differencing (stored_at run g.layout g.bits g.grouping) m kept in
    group_limits run g i sound h integers.last_fits integers.before_fits

-- Of a group's first numbers there are no more than of the group, nor than are asked for; where more are asked for, they are the group's.
pub record Cut (g : Group) (most : ℕ) : Type 0 where
  pub few : (first_of g most).count ≤ g.count
  pub asked : (first_of g most).count ≤ most
  pub whole : (first_of g most).count < most → (first_of g most).count ≡ g.count

pub cut : (g : Group) (most : ℕ) → Cut g most
cut g most =
    split (ltb most g.count)
    (λ more.
    let same : (first_of g most).count ≡ most = rw more in
    let fewer = ltb-true most g.count more in
    record { few = omega arith; asked = omega arith; whole = λ less. absurd (omega arith) })
    (λ less.
    let same : (first_of g most).count ≡ g.count = rw less in
    let enough = ltb-false most g.count less in
    record { few = omega arith; asked = omega arith; whole = λ _. same })

pub cut_limits : (g : Group) (most : ℕ) {latest : Latest} → Limits g latest → Limits (first_of g most) latest
cut_limits g most sizes =
    record {
      of_end = omega (arith, sizes.of_end, mul-le-mul_right g.width (cut g most).few);
      of_width = sizes.of_width;
      of_base = sizes.of_base;
      of_lowered = sizes.of_lowered;
      of_count = omega (arith, sizes.of_count, (cut g most).few);
      of_last = sizes.of_last;
      of_before = sizes.of_before;
    }

-- How far the first pass has come: of the integers that are wanted behind the second, so many are left, the last two are kept, and group i is the next.
pub record Working (run : List ℕ) (g : Groups) (wanted left i : ℕ) (latest : Latest) (start : Start) : Type 0 where
  pub few : left ≤ wanted
  pub within : i ≤ g.grouping.groups
  pub kept : worked_in run g (wanted - left) ≡ Some latest
  pub next : 0 < left → (wanted - left ≡ worked_before run g i) × (start ≡ start_of run g i)

module _ (run : List ℕ) (g : Groups) (wanted : ℕ) where
  -- Before the first group all are left.
  pub working_none : g.differencing.first ≤ most_x → g.differencing.second ≤ most_x → {bit : ℕ} → bit ≡ first_bit g.layout.packed.0 →
      Working run g wanted wanted 0 (record { x = g.differencing.second; before = g.differencing.first }) (record { values = 0; bit = record { 0 = bit } })
  unfolding values_before bits_before
  working_none h k {bit} first =
      let none : wanted - wanted ≡ 0 = omega arith in
      record {
        few = omega arith;
        within = omega arith;
        kept = ap (worked_in run g) none ∙ first_kept run g h k;
        next = λ _. (none, ap (λ (n : ℕ). record { values = 0; bit = record { 0 = n } }) (first ∙ sym (add-zero (first_bit g.layout.packed.0))));
      }

  module _ {left i : ℕ} {latest : Latest} {start : Start} (w : Working run g wanted left i latest start) (more : 0 < left) where
    -- Where some are left, there is a group that has them.
    pub working_group : wanted + 2 ≤ values_in run g → i < g.grouping.groups
    working_group fits =
        split (ltb i g.grouping.groups) (λ inside. ltb-true i g.grouping.groups inside)
        (λ past.
        let last : i ≡ g.grouping.groups = omega (arith, w.within, ltb-false i g.grouping.groups past) in
        absurd (omega (arith, w.few, (w.next more).0, ap (values_before run g.layout g.grouping) last)))

    module _ (inside : i < g.grouping.groups) {answer : Option Latest}
        (judged : answer ≡ worked_by run (first_of (group_at run g i) left) (Some latest) (first_of (group_at run g i) left).count) where
      abbrev count : ℕ
      count = (first_of (group_at run g i) left).count

      -- What the judging of its first numbers answers is what is worked out behind them.
      behind_these : answer ≡ worked_in run g (wanted - (left - count))
      behind_these =
          let counted = cut (group_at run g i) left in
          let here = (w.next more).0 in
          let place : worked_before run g i + count ≡ wanted - (left - count) = omega (arith, w.few, counted.asked, here) in
          judged
          ∙ first_worked run g (group_at run g i) left (Some latest) count
          ∙ ap (λ (v : Option Latest). worked_by run (group_at run g i) v count) (sym w.kept ∙ ap (worked_in run g) here)
          ∙ group_worked run g i count inside counted.few
          ∙ ap (worked_in run g) place

      pub working_out : answer ≡ None → None ≡ worked_in run g wanted
      working_out out = sym (out_later run g wanted (omega arith) (sym behind_these ∙ out))

      pub working_on : {after : Latest} → answer ≡ Some after → Working run g wanted (left - count) (i + 1) after (start_of run g (i + 1))
      working_on kept =
          let counted = cut (group_at run g i) left in
          record {
            few = omega (arith, w.few);
            within = omega (arith, inside);
            kept = sym behind_these ∙ kept;
            next = λ some. (omega (arith, w.few, (w.next more).0, counted.whole (omega (arith, some)), group_ends run g i), refl);
          }
