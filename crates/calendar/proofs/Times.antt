-- Times follow one another as the seconds before them do, and come in the order of their digits.
use mathlib.Core.Path.{◌≡◌, sym, ap, ◌∙◌}
use Prim.Native.Nat.{ℕ, ◌+◌, ◌*◌, ◌/◌, ◌%◌, ◌≤◌, ◌<◌}
use native.Mathlib.Nat.{div-div-eq-div-mul}
use native.Mathlib.Omega.{arith}
use borrow.Author.Tests.{ltb-true, ltb-false, leb-true, leb-false}
use lib.Dec.{ltb, leb}
use Rattle.octets.proofs.Cases.{split}
use Rattle.calendar.specs.declared.Date.{Date}
use Rattle.calendar.specs.declared.Time.{Time}
use Rattle.calendar.specs.Calendar.{until2399, second_of_day, seconds_after, fourteen_digits, Gregorian}
use Rattle.calendar.specs.Count.{day_number, RealDate}
use Rattle.calendar.proofs.General.{comes_back, same_digits}
use Rattle.calendar.proofs.Days.{to_2399, past_2399, same_number, eight_digits, later_counts, earlier, same_date, in_range_is_real}
use Rattle.std.specs.Prelude.{Some, None}

-- A time of a real date of any year.
pub record RealTime (t : Time) : Type 0 where
  pub on_date : RealDate t.date
  pub hour23 : t.hour ≤ 23
  pub minute59 : t.minute ≤ 59
  pub second59 : t.second ≤ 59

-- The Gregorian times are the real times of the years 1900 to 2399.
pub gregorian_is_real : {t : Time} → Gregorian t → RealTime t
gregorian_is_real h = omega arith

pub real_is_gregorian : {t : Time} → RealTime t → 1900 ≤ t.date.year → t.date.year ≤ 2399 → Gregorian t
real_is_gregorian h from to = omega arith

-- The seconds that lie before a time, from the year 0 on.
abbrev pub second_number : Time → ℕ
second_number t = day_number t.date * 86400 + second_of_day t

-- Seconds go into hours, minutes and seconds, and come out of them again.
split_second : (s : ℕ) → s / 86400 * 86400 + ((s / 3600 % 24 * 60 + s / 60 % 60) * 60 + s % 60) ≡ s
split_second s = omega (arith, div-div-eq-div-mul s 60 60, div-div-eq-div-mul s 3600 24)

-- So many seconds later is a real time with so many seconds more before it.
pub seconds_count : (n : ℕ) (t : Time) → RealTime t → RealTime (seconds_after n t) × (second_number (seconds_after n t) ≡ second_number t + n)
seconds_count n t h =
    let s = second_of_day t + n in
    let day = later_counts (s / 86400) t.date h.on_date in
    omega (arith, split_second s)

module _ (a b : Time) (h : RealTime a) (k : RealTime b) where
  -- A time is known by its digits.
  pub same_time : fourteen_digits a ≡ fourteen_digits b → a ≡ b
  same_time same =
      let second = same_digits _ a.second _ b.second (omega arith) (omega arith) same in
      let minute = same_digits _ a.minute _ b.minute (omega arith) (omega arith) second.0 in
      let hour = same_digits (eight_digits a.date) a.hour (eight_digits b.date) b.hour (omega arith) (omega arith) minute.0 in
      let day = same_date a.date b.date h.on_date k.on_date hour.0 in
      λ i. record { date = day i; hour = hour.1 i; minute = minute.1 i; second = second.1 i }

  earlier_in_day : (a.hour * 100 + a.minute) * 100 + a.second < (b.hour * 100 + b.minute) * 100 + b.second → second_of_day a < second_of_day b
  earlier_in_day less =
      split (ltb a.hour b.hour) (λ hour. omega (arith, ltb-true))
      (λ hour.
      let same : a.hour ≡ b.hour = omega (arith, ltb-false) in
      split (ltb a.minute b.minute) (λ minute. omega (arith, ltb-true)) (λ minute. omega (arith, ltb-false)))

  -- The earlier of two times by their digits has fewer seconds before it.
  pub earlier_time : fourteen_digits a < fourteen_digits b → second_number a < second_number b
  earlier_time less =
      split (ltb (eight_digits a.date) (eight_digits b.date))
      (λ day. omega (arith, earlier a.date b.date h.on_date k.on_date (ltb-true _ _ day)))
      (λ day.
      let same : eight_digits a.date ≡ eight_digits b.date = omega (arith, ltb-false) in
      let days : day_number a.date ≡ day_number b.date = ap day_number (same_date a.date b.date h.on_date k.on_date same) in
      omega (arith, earlier_in_day (omega arith)))

-- Of two times the one with no fewer seconds before it has no smaller digits.
pub later_time : (a b : Time) → RealTime a → RealTime b → second_number a ≤ second_number b → fourteen_digits a ≤ fourteen_digits b
later_time a b h k = comes_back _ _ _ _ (earlier_time b a k h)

-- A time is known by the seconds before it.
pub same_second : (a b : Time) → RealTime a → RealTime b → second_number a ≡ second_number b → a ≡ b
same_second a b h k same = same_time a b h k (omega (arith, later_time a b h k (omega arith), later_time b a k h (omega arith)))

-- The time at a second of a day.
abbrev pub moved_to : Date → ℕ → Time
moved_to d s = record { date = d; hour = s / 3600 % 24; minute = s / 60 % 60; second = s % 60 }

-- The number of days before a time moved on tells whether it passes 2399, and else which date it has.
module _ (t : Time) (n : ℕ) (h : Gregorian t) where
  moved : RealDate (seconds_after n t).date × (day_number (seconds_after n t).date ≡ day_number t.date + (second_of_day t + n) / 86400)
  moved = later_counts ((second_of_day t + n) / 86400) t.date (in_range_is_real h.on_date)

  pub passes_2399 : 876582 ≤ day_number t.date + (second_of_day t + n) / 86400 → until2399 (seconds_after n t) ≡ None
  passes_2399 past =
      split (leb (seconds_after n t).date.year 2399) (λ test. absurd (omega (arith, moved.1, to_2399 _ moved.0 (leb-true _ _ test)))) (λ test. rw test)

  pub stays_within : (d : Date) → RealDate d → day_number d ≡ day_number t.date + (second_of_day t + n) / 86400 → day_number d < 876582 → until2399 (seconds_after n t) ≡ Some (moved_to d (second_of_day t + n))
  stays_within d real same within =
      let dated : (seconds_after n t).date ≡ d = same_number _ _ moved.0 real (moved.1 ∙ sym same) in
      split (leb (seconds_after n t).date.year 2399) (λ test. rw (test, dated)) (λ test. absurd (omega (arith, ap day_number dated, past_2399 (seconds_after n t).date (leb-false _ _ test))))
