-- Group by group the code works out the standard's integers: `group_worked`, and in `group_field` as they are written.
use mathlib.Core.Path.{◌≡◌, refl, sym, ap, ap₂, ◌∙◌}
use mathlib.Core.Bool.{true, false}
use mathlib.Core.List.{List}
use Prim.Native.Nat.{ℕ, zero, suc, ◌+◌, ◌-◌, ◌*◌, ◌≤◌, ◌<◌}
use native.Mathlib.Nat.{add-mul, add-zero, add-suc}
use native.Mathlib.Omega.{arith}
use borrow.Author.Tests.{ltb-true, ltb-false, leb-true, le-leb, lt-leb}
use lib.Dec.{ltb}
use lib.IntN.{nat_abs}
use Rattle.octets.specs.Places.{first_bit}
use Rattle.octets.proofs.Cases.{apart, split}
use Rattle.bits.specs.Bits.{bits_at}
use Rattle.section_7_layout.specs.Runs.{width_of, length_of}
use Rattle.section_7.specs.Packing.{values_before, bits_before}
use Rattle.section_7.proofs.Laws.{values_more, values_mono}
use Rattle.values_group.specs.declared.Group.{Group}
use Rattle.std.specs.Prelude.{Option, Some, None, is_some}
use Rattle.values_group.specs.declared.Latest.{Latest}
use Rattle.values_group.specs.Group.{most_x, next, packed_number, worked_by, last_of, integers_of}
use Rattle.values_integers.specs.Integers.{InGroup, reference_of, stored_at, integer, are_in_range}
use Rattle.values_integers.specs.Worked.{raised_by, lowered_by, worked}
use Rattle.values_integers.proofs.Groups.{stands_stored}
use Rattle.values_integers.proofs.Joined.{worked_sound, worked_range, worked_out}
use Rattle.values_integers.proofs.Range.{in_range_all, in_range_one, in_range_out}
use Rattle.section_7.specs.declared.Groups.{Groups}
use Rattle.values_complex.specs.Complex.{skipped, group_at, first_of, values_in, integer_in, size_in, worked_in, single_of, Sound}

-- No more is skipped than the group has, nor than makes two values with those before it.
pub record Skips (values length : ℕ) : Type 0 where
  pub few : skipped values length ≤ length
  pub to_two : skipped values length < length → values + skipped values length ≡ values - 2 + 2
  pub rest : values - 2 + (length - skipped values length) ≡ values + length - 2

pub skips : (values length : ℕ) → Skips values length
skips values length =
    split (ltb length (2 - values))
    (λ short.
    let all : skipped values length ≡ length = rw short in
    let under = ltb-true length (2 - values) short in
    record { few = omega arith; to_two = λ h. absurd (omega arith); rest = omega arith })
    (λ long.
    let two : skipped values length ≡ 2 - values = rw long in
    let over = ltb-false length (2 - values) long in
    record { few = omega arith; to_two = λ h. omega arith; rest = omega arith })

module _ (run : List ℕ) (g : Groups) where
  abbrev stored : ℕ → ℕ
  stored m = stored_at run g.layout g.bits g.grouping m

  abbrev before : ℕ → ℕ
  before i = values_before run g.layout g.grouping i

  abbrev length_at : ℕ → ℕ
  length_at i = length_of run g.layout g.grouping i

  -- The packed number k that is used of group i, with the group's reference, is what is stored for the value.
  number_stored : (i k : ℕ) → i < g.grouping.groups → k < (group_at run g i).count → packed_number run (group_at run g i) k + reference_of run g.layout g.bits i ≡ stored (before i - 2 + k + 2)
  number_stored i k h l =
      let s = skips (before i) (length_at i) in
      let skip : ℕ = skipped (before i) (length_at i) in
      let value : before i - 2 + k + 2 ≡ before i + (skip + k) = omega (arith, s.to_two (omega arith)) in
      let stands : InGroup run g.layout g.grouping (before i - 2 + k + 2) i (skip + k) = record { within = h; inside = omega arith; behind = value } in
      ap (λ (place : ℕ). bits_at run place (width_of run g.layout g.grouping i) + reference_of run g.layout g.bits i) (placed (first_bit g.layout.packed.0) (bits_before run g.layout g.grouping i) skip k (width_of run g.layout g.grouping i))
      ∙ sym (stands_stored run g.layout g.grouping stands g.bits)
    where
      placed : (first bits skip k width : ℕ) → first + bits + skip * width + k * width ≡ first + (bits + (skip + k) * width)
      placed first bits skip k width = rw (add-mul skip k width) (omega arith)

  -- Behind k integers of group i stands what is worked out behind all values up to them.
  pub group_worked : (i k : ℕ) → i < g.grouping.groups → k ≤ (group_at run g i).count → worked_by run (group_at run g i) (worked_in run g (before i - 2)) k ≡ worked_in run g (before i - 2 + k)
  unfolding worked_by worked
  group_worked i zero h l = ap (worked_in run g) (sym (add-zero (before i - 2)))
  group_worked i (suc k) h l =
      let m : ℕ = before i - 2 + k in
      let two : m + 2 ≡ suc (suc m) = omega arith in
      let later : suc m ≡ before i - 2 + suc k = omega arith in
      let number : packed_number run (group_at run g i) k + (group_at run g i).base ≡ stored (suc (suc m)) + raised_by g.differencing.zmin =
      omega (arith, number_stored i k h (omega arith), ap stored two) in
      ap₂ (λ (raised : ℕ) (w : Option Latest). next raised (lowered_by g.differencing.zmin) w) number (group_worked i k h (omega arith)) ∙ ap (worked_in run g) later

  -- Behind all of them stands what is worked out behind the next group's start.
  pub group_ends : (i : ℕ) → before i - 2 + (group_at run g i).count ≡ before (i + 1) - 2
  group_ends i = omega (arith, (skips (before i) (length_at i)).rest, values_more run g.layout g.grouping i)

  pub group_passed : (i : ℕ) → i < g.grouping.groups → worked_by run (group_at run g i) (worked_in run g (before i - 2)) (group_at run g i).count ≡ worked_in run g (before (i + 1) - 2)
  group_passed i h = group_worked i (group_at run g i).count h (omega arith) ∙ ap (worked_in run g) (group_ends i)

  -- The first two values are judged before all groups.
  pub first_kept : g.differencing.first ≤ most_x → g.differencing.second ≤ most_x → worked_in run g 0 ≡ Some (record { x = g.differencing.second; before = g.differencing.first })
  unfolding worked
  first_kept h k = rw (le-leb g.differencing.first most_x h, le-leb g.differencing.second most_x k)

  -- Behind an integer out of its range nothing is kept.
  out_stays : (m k : ℕ) → worked_in run g m ≡ None → worked_in run g (m + k) ≡ None
  unfolding worked
  out_stays m zero e = ap (worked_in run g) (add-zero m) ∙ e
  out_stays m (suc k) e = ap (worked_in run g) (add-suc m k) ∙ ap (next (stored (suc (suc (m + k))) + raised_by g.differencing.zmin) (lowered_by g.differencing.zmin)) (out_stays m k e)

  pub out_later : {m : ℕ} (n : ℕ) → m ≤ n → worked_in run g m ≡ None → worked_in run g n ≡ None
  out_later {m} n h e = let all : m + (n - m) ≡ n = omega arith in sym (ap (worked_in run g) all) ∙ out_stays m (n - m) e

  -- The integers up to those that are worked out are in their range exactly where these are kept.
  pub range_worked : (m : ℕ) → are_in_range (integer_in run g) (m + 2) ≡ is_some (worked_in run g m)
  range_worked m = by (worked_in run g m) refl
    where
      by : (w : Option Latest) → worked_in run g m ≡ w → are_in_range (integer_in run g) (m + 2) ≡ is_some w
      by (Some latest) e = in_range_all (integer_in run g) (m + 2) (λ j h. worked_range g.differencing stored m e j (omega arith))
      by None e = let beyond = worked_out g.differencing stored m e in in_range_out (integer_in run g) (m + 2) {j = beyond.which} (omega (arith, beyond.asked)) beyond.outside

  -- So it is where the first value or the second is out of its range.
  pub first_out : most_x < g.differencing.first → (n : ℕ) → 1 ≤ n → are_in_range (integer_in run g) n ≡ false
  unfolding integer
  first_out h n some = in_range_out (integer_in run g) n {j = 0} some (lt-leb g.differencing.first most_x h)

  pub second_out : most_x < g.differencing.second → (n : ℕ) → 2 ≤ n → are_in_range (integer_in run g) n ≡ false
  unfolding integer
  second_out h n two = in_range_out (integer_in run g) n {j = 1} two (lt-leb g.differencing.second most_x h)

  -- One integer alone, by what is worked out up to it.
  pub first_single : g.differencing.first ≤ most_x → Some g.differencing.first ≡ single_of (integer_in run g) 0
  unfolding integer are_in_range
  first_single h = rw (le-leb g.differencing.first most_x h)

  pub single_kept : (m : ℕ) {latest : Latest} → worked_in run g m ≡ Some latest → Some latest.x ≡ single_of (integer_in run g) (suc m)
  single_kept m e =
      let two : m + 2 ≡ suc (suc m) = omega arith in
      let inside : are_in_range (integer_in run g) (suc (suc m)) ≡ true = ap (are_in_range (integer_in run g)) (sym two) ∙ range_worked m ∙ ap is_some e in
      rw inside (ap Some (sym (ap nat_abs (worked_sound g.differencing stored m e).last)))

  pub single_out : (m : ℕ) → are_in_range (integer_in run g) (suc m) ≡ false → None ≡ single_of (integer_in run g) m
  single_out m e = rw e

  -- The first numbers of a group are worked out as the group's own, within its limits.
  pub first_worked : (h : Group) (most : ℕ) (w : Option Latest) (k : ℕ) → worked_by run (first_of h most) w k ≡ worked_by run h w k
  unfolding worked_by
  first_worked h most w zero = refl
  first_worked h most w (suc k) = ap (next (packed_number run h k + h.base) h.lowered) (first_worked h most w k)

  module _ (sound : Sound run g) where
    pub next_start : (i : ℕ) → i < g.grouping.groups → before (i + 1) - 2 ≤ values_in run g - 2
    next_start i h = omega (arith, values_mono run g.layout g.grouping {i = i + 1} g.grouping.groups (omega arith))

    -- Where all are in their range, each is kept.
    pub range_kept : are_in_range (integer_in run g) (values_in run g) ≡ true → (m : ℕ) → m ≤ values_in run g - 2 → is_some (worked_in run g m) ≡ true
    range_kept all m h =
        sym (range_worked m) ∙ in_range_all (integer_in run g) (m + 2) (λ j l. in_range_one (integer_in run g) (values_in run g) all (omega (arith, sound.two_values)))

    module _ (all : are_in_range (integer_in run g) (values_in run g) ≡ true) where
      -- The first two integers are the first value and the second.
      pub two_fit : (g.differencing.first ≤ most_x) × (g.differencing.second ≤ most_x)
      unfolding integer
      two_fit =
          let one = in_range_one (integer_in run g) (values_in run g) {j = 0} all (omega (arith, sound.two_values)) in
          let two = in_range_one (integer_in run g) (values_in run g) {j = 1} all (omega (arith, sound.two_values)) in
          (leb-true g.differencing.first most_x one, leb-true g.differencing.second most_x two)

      pub two_kept : worked_in run g 0 ≡ Some (record { x = g.differencing.second; before = g.differencing.first })
      two_kept = first_kept two_fit.0 two_fit.1

      -- The integers of group i, as they are written, are the field's.
      pub group_field : (i : ℕ) (latest : Latest) → i < g.grouping.groups → worked_in run g (before i - 2) ≡ Some latest → (k : ℕ) → k < (group_at run g i).count → integers_of run (group_at run g i) latest k ≡ size_in run g (before i - 2 + 2 + k)
      group_field i latest h kept k l =
          let m : ℕ = before i - 2 + suc k in
          let last : worked_by run (group_at run g i) (Some latest) (suc k) ≡ worked_in run g m =
          ap (λ (w : Option Latest). worked_by run (group_at run g i) w (suc k)) (sym kept) ∙ group_worked i (suc k) h (omega arith) in
          let asked : m ≤ values_in run g - 2 = omega (arith, group_ends i, next_start i h) in
          let number : suc m ≡ before i - 2 + 2 + k = omega arith in
          ap last_of last ∙ sized m (worked_in run g m) refl (range_kept all m asked) ∙ ap (size_in run g) number
        where
          sized : (m : ℕ) (w : Option Latest) → worked_in run g m ≡ w → is_some w ≡ true → last_of w ≡ size_in run g (suc m)
          sized m (Some latest) e h = sym (ap nat_abs (worked_sound g.differencing stored m e).last)
          sized m None e h = apart cc
