-- What is left of a group behind some of its numbers.
use Rattle.std.proofs.Common.{◌≡◌, ℕ, zero, suc, ◌+◌, ◌-◌, ◌*◌, ◌≤◌, ltb, List, sym, refl, ap, ◌∙◌, subst, ap₂, add-zero, add-suc, add-mul, arith, ltb-false}
use Rattle.std.specs.Prelude.{Option, Some, None}
use Rattle.octets.proofs.Cases.{split}
use Rattle.bits.specs.Bits.{bits_at}
use Rattle.values_group.specs.declared.Group as declared
use Rattle.values_group.specs.declared.Latest.{Latest}
use Rattle.values_group.specs.Group.{most_x, judged, next, packed_number, worked_by, last_of, integers_of, Limits, behind}

-- Integers that are kept are in their range.
abbrev pub Ranged : Option Latest → Type 0
Ranged (Some latest) = (latest.x ≤ most_x) × (latest.before ≤ most_x)
Ranged None = ◌≡◌ {A = ℕ} 0 0

-- The integers that are kept are in their range where the first two are.
judged_fits : (x up down : ℕ) → x ≤ most_x → Ranged (judged x up down)
judged_fits x up down h =
    split (ltb up down) (λ low. rw low refl)
    (λ low. split (ltb most_x (up - down)) (λ high. rw (low, high) refl) (λ high. rw (low, high) (ltb-false most_x (up - down) high, h)))

next_fits : (raised lowered : ℕ) (w : Option Latest) → Ranged w → Ranged (next raised lowered w)
next_fits raised lowered (Some latest) h = judged_fits latest.x (raised + 2 * latest.x) (latest.before + lowered) h.0
next_fits raised lowered None h = refl

module _ (run : List ℕ) (g : declared.Group) where
  pub worked_fits : (w : Option Latest) → Ranged w → (k : ℕ) → Ranged (worked_by run g w k)
  unfolding worked_by
  worked_fits w h zero = h
  worked_fits w h (suc k) = next_fits (packed_number run g k + g.base) g.lowered (worked_by run g w k) (worked_fits w h k)

  -- The packed numbers of what is left are the group's own.
  behind_number : (k j : ℕ) → packed_number run (behind g k) j ≡ packed_number run g (k + j)
  behind_number k j =
      let place : g.from.0 + k * g.width + j * g.width ≡ g.from.0 + (k + j) * g.width = omega (arith, add-mul k j g.width) in
      ap (λ (i : ℕ). bits_at run i g.width) place

  -- What is left goes on where the first numbers stopped.
  pub behind_worked : (w : Option Latest) (k j : ℕ) → worked_by run (behind g k) (worked_by run g w k) j ≡ worked_by run g w (k + j)
  unfolding worked_by
  behind_worked w k zero = ap (worked_by run g w) (sym (add-zero k))
  behind_worked w k (suc j) =
      ap₂ (λ (n : ℕ) (v : Option Latest). next (n + g.base) g.lowered v) (behind_number k j) (behind_worked w k j)
      ∙ sym (ap (worked_by run g w) (add-suc k j))

  -- What is left keeps the sizes of the group: it ends where the group ends.
  pub behind_limits : {latest : Latest} (k : ℕ) → Limits g latest → k ≤ g.count → Limits (behind g k) latest
  behind_limits k sizes few =
      let all : k + (g.count - k) ≡ g.count = omega arith in
      record {
        of_end = omega (arith, sizes.of_end, add-mul k (g.count - k) g.width, ap (λ (n : ℕ). n * g.width) all);
        of_width = sizes.of_width;
        of_base = sizes.of_base;
        of_lowered = sizes.of_lowered;
        of_count = omega (arith, sizes.of_count);
        of_last = sizes.of_last;
        of_before = sizes.of_before;
      }

  module _ (latest : Latest) (k : ℕ) {reached : Latest} (kept : worked_by run g (Some latest) k ≡ Some reached) where
    pub behind_kept : (j : ℕ) → worked_by run (behind g k) (Some reached) j ≡ worked_by run g (Some latest) (k + j)
    behind_kept j = ap (λ (v : Option Latest). worked_by run (behind g k) v j) (sym kept) ∙ behind_worked (Some latest) k j

    -- Up to the last number, what is left gives what the group does.
    pub behind_all : {n : ℕ} → k ≤ n → worked_by run (behind g k) (Some reached) (n - k) ≡ worked_by run g (Some latest) n
    behind_all {n} h = let all : k + (n - k) ≡ n = omega arith in behind_kept (n - k) ∙ ap (worked_by run g (Some latest)) all

    pub behind_integer : (j : ℕ) → integers_of run (behind g k) reached j ≡ integers_of run g latest (k + j)
    behind_integer j = ap last_of (behind_kept (suc j) ∙ ap (worked_by run g (Some latest)) (add-suc k j))

    -- The same group goes on within its sizes.
    pub limits_on : Limits g latest → Limits g reached
    limits_on sizes =
        let fits : Ranged (Some reached) = subst Ranged kept (worked_fits (Some latest) (sizes.of_last, sizes.of_before) k) in
        record {
          of_end = sizes.of_end;
          of_width = sizes.of_width;
          of_base = sizes.of_base;
          of_lowered = sizes.of_lowered;
          of_count = sizes.of_count;
          of_last = fits.0;
          of_before = fits.1;
        }
