-- The integers of a group, one by one: what is kept behind the last of them was kept behind each before it.
use Rattle.std.proofs.Common.{◌≡◌, ℕ, zero, suc, ◌+◌, ◌-◌, ◌≤◌, true, List, sym, refl, ap, ◌∙◌, add-zero, arith}
use Rattle.std.specs.Prelude.{Option, Some, None, is_some}
use Rattle.values_group.specs.declared.Group as declared
use Rattle.values_group.specs.declared.Latest.{Latest}
use Rattle.values_group.specs.Group.{next, packed_number, worked_by}

module _ (run : List ℕ) (g : declared.Group) (w : Option Latest) where
  -- Behind an integer out of its range nothing is kept.
  out_stays : (n k : ℕ) → worked_by run g w k ≡ None → worked_by run g w (k + n) ≡ None
  unfolding worked_by
  out_stays zero k e = rw (add-zero k) e
  out_stays (suc n) k e =
      let later : k + suc n ≡ suc (k + n) = omega arith in
      ap (worked_by run g w) later ∙ ap (next (packed_number run g (k + n) + g.base) g.lowered) (out_stays n k e)

  pub out_later : {k : ℕ} (n : ℕ) → k ≤ n → worked_by run g w k ≡ None → None ≡ worked_by run g w n
  out_later {k} n h e = let whole : k + (n - k) ≡ n = omega arith in sym (out_stays (n - k) k e) ∙ ap (worked_by run g w) whole

  pub kept_earlier : (n k : ℕ) → k ≤ n → is_some (worked_by run g w n) ≡ true → is_some (worked_by run g w k) ≡ true
  kept_earlier n k h e = by (worked_by run g w k) refl
    where
      by : (v : Option Latest) → worked_by run g w k ≡ v → is_some v ≡ true
      by (Some latest) same = refl
      by None same = ap is_some (out_later n h same) ∙ e
