-- What the loop of `section_7::plan_of` keeps: the groups that it has passed are sound, and it has counted their values and bits.
use mathlib.Core.Path.{◌≡◌, refl, sym, ◌∙◌}
use mathlib.Core.Bool.{true, false, ◌&&◌}
use mathlib.Core.List.{List}
use Prim.Native.Nat.{ℕ, ◌+◌, ◌*◌, ◌^◌, ◌≤◌, ◌<◌}
use native.Mathlib.Nat.{mul-le-mul_right}
use native.Mathlib.Omega.{arith}
use borrow.Author.Tests.{leb-true, le-leb}
use lib.Dec.{leb}
use Rattle.octets.proofs.Cases.{apart, both}
use Rattle.section_5_groups.specs.declared.Grouping.{Grouping}
use Rattle.section_7_layout.specs.declared.Layout.{Layout}
use Rattle.section_7_layout.specs.Runs.{width_of, length_of}
use Rattle.section_7.specs.Packing.{values_before, bits_before, are_sound, plan_of}
use Rattle.section_7.proofs.Laws.{sound_more, sound_widths, values_more, bits_more, values_mono, bits_of_values, plan_bad}
use Rattle.std.specs.Prelude.{None}

pub record Planned (run : List ℕ) (at : Layout) (g : Grouping) (n i values bits : ℕ) : Type 0 where
  pub inside : i ≤ g.groups
  pub sound : are_sound run at g i ≡ true
  pub counts : values ≡ values_before run at g i
  pub few : values ≤ n
  pub takes : bits ≡ bits_before run at g i

module _ (run : List ℕ) (at : Layout) (g : Grouping) (n : ℕ) where
  pub planned_none : Planned run at g n 0 0 0
  unfolding are_sound values_before bits_before
  planned_none = record { inside = omega arith; sound = refl; counts = refl; few = omega arith; takes = refl }

  -- A group that is not sound, and one that has more values than are left: with each there is no plan.
  pub unsound : {i : ℕ} → i < g.groups → (leb (width_of run at g i) 31 && leb 1 (length_of run at g i)) ≡ false → plan_of run at g n ≡ None
  unsound {i} h e =
      plan_bad run at g (λ sound _.
      let group = sound_widths run at g g.groups sound h in
      let good : (leb (width_of run at g i) 31 && leb 1 (length_of run at g i)) ≡ true = simp (le-leb _ _ group.0, le-leb _ _ group.1) in
      let clash : true ≡ false = sym good ∙ e in
      apart cc)

  pub too_many : {i : ℕ} → i < g.groups → n < values_before run at g i + length_of run at g i → plan_of run at g n ≡ None
  too_many {i} h k = plan_bad run at g (λ _ all. omega (arith, values_more run at g i, values_mono run at g {i = i + 1} g.groups (omega arith)))

  module _ {i values bits : ℕ} (p : Planned run at g n i values bits) where
    -- With the next group, the bits still fit.
    pub next_fits : (width length : ℕ) → n < 2 ^ 32 → (leb width 31 && leb 1 length) ≡ true → values + length ≤ n → bits + width * length < 2 ^ 37
    next_fits width length h e l =
        let narrow = leb-true width 31 (both _ (leb 1 length) e).0 in
        omega (arith, p.counts, p.takes, bits_of_values run at g i p.sound, mul-le-mul_right length narrow)

    -- The next group is sound, and has no more values than are left.
    pub planned_more : {width length : ℕ} → i < g.groups → width ≡ width_of run at g i → length ≡ length_of run at g i →
        (leb width 31 && leb 1 length) ≡ true → values + length ≤ n →
        Planned run at g n (i + 1) (values + length) (bits + width * length)
    planned_more {width} {length} h w l e f =
        let group = both (leb width 31) (leb 1 length) e in
        record {
          inside = omega arith;
          sound = sound_more run at g i p.sound (rw w at (leb-true width 31 group.0)) (rw l at (leb-true 1 length group.1));
          counts = rw (p.counts, l) (sym (values_more run at g i));
          few = f;
          takes = rw (p.takes, w, l) (sym (bits_more run at g i));
        }
