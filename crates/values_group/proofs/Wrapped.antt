-- The integers of a group as the code works them out, in sums where 2 ^ 64 counts as 0. A loop holds what it adds to each packed number, but not the
-- group that this is made of: here stands what it works out by that alone, and that it is what the group has.
use Rattle.std.proofs.Common.{◌≡◌, ℕ, zero, suc, ◌+◌, ◌-◌, ◌*◌, ◌%◌, ◌^◌, ◌<◌, ◌≤◌, true, cond, ltb, List, sym, refl, ap, ◌∙◌, lt_of_lt_of_le, arith, pow_mono, ltb-false, ltb-true, le-ltb, lt-ltb}
use Rattle.std.specs.Prelude.{Option, Some, None, is_some}
use lib.Bits.{bit_or, or_add_and, and_le_l, and_le_r, or_lt}
use Rattle.octets.proofs.Cases.{split}
use Rattle.bits.specs.Bits.{bits_at}
use Rattle.bits.proofs.Laws.{bits_lt}
use Rattle.values_group.specs.declared.Group as declared
use Rattle.values_group.specs.declared.Latest.{Latest}
use Rattle.values_group.specs.Group.{most_x, next, packed_number, worked_by, last_of, Limits, Gains, wrapped, followed_by}
use Rattle.values_group.proofs.Steps.{kept_earlier}
use Rattle.values_group.proofs.Left.{Ranged, worked_fits}

-- Sums in which 2 ^ 64 counts as 0.
wrapped_back : (packed gain x before : ℕ) → before ≤ most_x → ((packed + gain + 2 * x + (2 ^ 64 - before)) % 2 ^ 64 + before) % 2 ^ 64 ≡ (gain + (packed + 2 * x)) % 2 ^ 64
wrapped_back packed gain x before h = omega arith

wrapped_sum : (r before sum gain lowered base : ℕ) → (r + before) % 2 ^ 64 ≡ (gain + sum) % 2 ^ 64 → (gain + lowered) % 2 ^ 64 ≡ base → base + sum < 2 ^ 64 →
    (r + (before + lowered)) % 2 ^ 64 ≡ base + sum
wrapped_sum r before sum gain lowered base e g h = omega arith

-- What makes up the difference between two sums is that difference, and far too large where it is below 0.
wrapped_difference : (r up down : ℕ) → (r + down) % 2 ^ 64 ≡ up → r < 2 ^ 64 → down ≤ up → up - down ≡ r
wrapped_difference r up down e fits low = omega arith

wrapped_huge : (r up down : ℕ) → (r + down) % 2 ^ 64 ≡ up → r < 2 ^ 64 → down ≤ 8589934592 → up < down → most_x < r
wrapped_huge r up down e fits few low = omega arith

-- Such an integer, judged by one test.
abbrev pub tested : (packed gain : ℕ) → Option Latest → Option Latest
tested packed gain (Some latest) = cond (ltb most_x (wrapped packed gain latest)) None (Some (followed_by (wrapped packed gain latest) latest))
tested packed gain None = None

-- What the test answers.
pub tested_out : {r : ℕ} (packed gain : ℕ) (latest : Latest) → r ≡ wrapped packed gain latest → most_x < r → None ≡ tested packed gain (Some latest)
tested_out {r} packed gain latest e h = rw (← e, lt-ltb most_x r h) refl

pub tested_in : {r : ℕ} (packed gain : ℕ) (latest : Latest) → r ≡ wrapped packed gain latest → r ≤ most_x → Some (followed_by r latest) ≡ tested packed gain (Some latest)
tested_in {r} packed gain latest e h = rw (← e, le-ltb most_x r h) refl

-- What is kept where all integers so far are seen together: nothing where one bit of them shows that one was out of its range.
abbrev pub unless_seen : ℕ → Latest → Option Latest
unless_seen seen latest = cond (ltb most_x seen) None (Some latest)

-- Numbers are seen together by their bits: what is seen is no less than each, and has 31 bits where each has.
seen_first : (seen r : ℕ) → seen ≤ bit_or seen r
seen_first seen r = omega (arith, or_add_and seen r, and_le_r seen r)

seen_last : (seen r : ℕ) → r ≤ bit_or seen r
seen_last seen r = omega (arith, or_add_and seen r, and_le_l seen r)

seen_small : (seen r : ℕ) → seen ≤ most_x → r ≤ most_x → bit_or seen r ≤ most_x
seen_small seen r h k = omega (arith, or_lt 31 seen r (omega arith) (omega arith))

-- One integer more is seen: that is as good as a test of its own.
pub one_seen : {r : ℕ} (packed gain seen : ℕ) (latest : Latest) → r ≡ wrapped packed gain latest →
    unless_seen (bit_or seen r) (followed_by r latest) ≡ tested packed gain (unless_seen seen latest)
one_seen {r} packed gain seen latest e =
    split (ltb most_x seen)
    (λ out. rw (out, lt-ltb most_x (bit_or seen r) (omega (arith, ltb-true most_x seen out, seen_first seen r))) refl)
    (λ inside.
    split (ltb most_x r)
    (λ large. rw (inside, lt-ltb most_x (bit_or seen r) (omega (arith, ltb-true most_x r large, seen_last seen r))) (tested_out packed gain latest e (ltb-true most_x r large)))
    (λ small. rw (inside, le-ltb most_x (bit_or seen r) (seen_small seen r (ltb-false most_x seen inside) (ltb-false most_x r small))) (tested_in packed gain latest e (ltb-false most_x r small))))

-- So one test judges the next integer.
next_tested : (gain packed base lowered : ℕ) (w : Option Latest) → packed < 2 ^ 32 → Gains gain base lowered → Ranged w →
    next (packed + base) lowered w ≡ tested packed gain w
next_tested gain packed base lowered None small gains h = refl
next_tested gain packed base lowered (Some latest) small gains h =
    let x = latest.x in
    let up = packed + base + 2 * x in
    let down = latest.before + lowered in
    let r = wrapped packed gain latest in
    let same : base + (packed + 2 * x) ≡ up = omega arith in
    let fits : r < 2 ^ 64 = omega arith in
    let back = wrapped_back packed gain x latest.before h.1 in
    let few : base + (packed + 2 * x) < 2 ^ 64 = omega (arith, small, h.0, gains.0) in
    let sum : (r + down) % 2 ^ 64 ≡ up = wrapped_sum r latest.before (packed + 2 * x) gain lowered base back gains.2 few ∙ same in
    split (ltb up down)
    (λ low. rw (low, lt-ltb most_x r (wrapped_huge r up down sum fits (omega (arith, h.1, gains.1)) (ltb-true up down low))) refl)
    (λ low. rw (low, wrapped_difference r up down sum fits (ltb-false up down low)) refl)

-- What a loop over packed numbers goes by: their run, the bit where the first of them lies, the width of each, what it adds to each, and the two integers
-- before them.
pub record Course : Type 0 where
  pub run : List ℕ
  pub from : ℕ
  pub width : ℕ
  pub gain : ℕ
  pub latest : Latest

abbrev pub course_of : List ℕ → declared.Group → ℕ → Latest → Course
course_of run g gain latest = record { run = run; from = g.from.0; width = g.width; gain = gain; latest = latest }

-- The packed number k, what is kept behind k numbers, and the integer that number k gives.
abbrev pub number_by : Course → ℕ → ℕ
number_by s k = bits_at s.run (s.from + k * s.width) s.width

unfoldable pub tested_by : Course → ℕ → Option Latest
tested_by s zero = Some s.latest
tested_by s (suc k) = tested (number_by s k) s.gain (tested_by s k)

abbrev pub integer_by : Course → ℕ → ℕ
integer_by s k = last_of (tested_by s (suc k))

-- It is what the group has, if it adds as much.
module _ (run : List ℕ) (g : declared.Group) (gain : ℕ) {latest : Latest} (sizes : Limits g latest) (gains : Gains gain g.base g.lowered) where
  pub worked_tested : (k : ℕ) → worked_by run g (Some latest) k ≡ tested_by (course_of run g gain latest) k
  unfolding worked_by tested_by
  worked_tested zero = refl
  worked_tested (suc k) =
      let packed = packed_number run g k in
      let narrow = pow_mono {i = g.width} {j = 32} (omega (arith, sizes.of_width)) in
      let small : packed < 2 ^ 32 = lt_of_lt_of_le (bits_lt run (g.from.0 + k * g.width) g.width) narrow in
      next_tested gain packed g.base g.lowered (worked_by run g (Some latest) k) small gains
      (worked_fits run g (Some latest) (sizes.of_last, sizes.of_before) k)
      ∙ ap (tested packed gain) (worked_tested k)

  -- All integers before one that is kept are kept.
  pub tested_kept : {all : ℕ} → is_some (worked_by run g (Some latest) all) ≡ true →
      (k : ℕ) → k ≤ all → is_some (tested_by (course_of run g gain latest) k) ≡ true
  tested_kept {all} kept k h = ap is_some (sym (worked_tested k)) ∙ kept_earlier run g (Some latest) all k h kept
