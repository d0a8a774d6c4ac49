-- The block that goes around in the loop over a group has the group's next integers.
use mathlib.Core.Path.{◌≡◌, ap, ◌∙◌}
use mathlib.Core.Bool.{true}
use mathlib.Core.List.{List}
use Prim.Native.Nat.{ℕ, suc, ◌+◌, ◌%◌, ◌≤◌, ◌<◌}
use native.Mathlib.Omega.{arith}
use lib.ListN.{get_or}
use Rattle.octets.proofs.Cases.{apart}
use Rattle.laws_rows.specs.Rows.{row}
use Rattle.laws_rows.proofs.Laws.{row_at}
use Rattle.values_points.specs.Written.{integers_in}
use Rattle.values_group.specs.declared.Group.{Group}
use Rattle.std.specs.Prelude.{Option, Some, None, is_some}
use Rattle.values_group.specs.declared.Latest.{Latest}
use Rattle.values_group.specs.Group.{most_x, worked_by, last_of, integers_of, Limits, behind}
use Rattle.values_group.proofs.Steps.{kept_earlier}
use Rattle.values_group.proofs.Left.{Ranged, worked_fits, behind_kept, behind_integer}

-- An integer that is kept is in its range.
kept_small : (w : Option Latest) → Ranged w → is_some w ≡ true → last_of w ≤ most_x
kept_small (Some latest) h e = h.0
kept_small None h e = apart (cc e)

module _ (run : List ℕ) (g : Group) (from : Latest) (done : ℕ) {latest : Latest} (kept : worked_by run g (Some from) done ≡ Some latest)
    (sizes : Limits g from) (whole : is_some (worked_by run g (Some from) g.count) ≡ true) where
  -- The next integers of the group are in their range, so that they can be put into a block.
  pub next_kept : (n : ℕ) → done + n ≤ g.count → is_some (worked_by run (behind g done) (Some latest) n) ≡ true
  next_kept n h = ap is_some (behind_kept run g from done kept n) ∙ kept_earlier run g (Some from) g.count (done + n) h whole

  -- What the block then has is the integers of the group, from number `done` on.
  pub block_integers : (n : ℕ) (part : List ℕ) → done + n ≤ g.count → part ≡ row (integers_of run (behind g done) latest) n → (k : ℕ) → k < n →
      integers_in part k ≡ integers_of run g from (done + k)
  block_integers n part h same k l =
      let integer = integers_of run g from (done + k) in
      let here : get_or part k 0 ≡ integer = ap (λ (r : List ℕ). get_or r k 0) same ∙ row_at (integers_of run (behind g done) latest) n k 0 l ∙ behind_integer run g from done kept k in
      let ranged = worked_fits run g (Some from) (sizes.of_last, sizes.of_before) (suc (done + k)) in
      let up_to : suc (done + k) ≤ g.count = omega arith in
      let small : integer ≤ most_x = kept_small (worked_by run g (Some from) (suc (done + k))) ranged (kept_earlier run g (Some from) g.count (suc (done + k)) up_to whole) in
      let remainder : integer % 2147483648 ≡ integer = omega (arith, small) in
      ap (λ (i : ℕ). i % 2147483648) here ∙ remainder
