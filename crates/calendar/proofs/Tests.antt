-- The test of a date holds exactly for the dates in range, that of a time exactly for the Gregorian times, and so are octets read.
use mathlib.Core.Path.{◌≡◌}
use mathlib.Core.Bool.{Bool, true, false, ◌&&◌}
use mathlib.Core.List.{List}
use Prim.Native.Nat.{ℕ, ◌≤◌}
use borrow.Author.Tests.{leb-true, le-leb}
use lib.Dec.{leb}
use Rattle.octets.proofs.Cases.{split, both}
use Rattle.calendar.specs.declared.Date.{Date}
use Rattle.calendar.specs.declared.Time.{Time}
use Rattle.calendar.specs.Calendar.{octets_time, time_at, is_date, is_time, DateInRange, Gregorian}
use Rattle.std.specs.Prelude.{Some, None}

-- The last of several bounds that are tested together holds, and so do those before it.
bound : (others : Bool) (m n : ℕ) → (others && leb m n) ≡ true → (others ≡ true) × (m ≤ n)
bound others m n e = let tests = both others (leb m n) e in (tests.0, leb-true m n tests.1)

-- A date or a time that passes its test is in range.
pub date_in_range : (d : Date) → is_date d ≡ true → DateInRange d
date_in_range d e =
    let day_last = bound _ _ _ e in
    let day1 = bound _ _ _ day_last.0 in
    let month12 = bound _ _ _ day1.0 in
    let month1 = bound _ _ _ month12.0 in
    let to2399 = bound _ _ _ month1.0 in
    record { from1900 = leb-true _ _ to2399.0; to2399 = to2399.1; month1 = month1.1; month12 = month12.1; day1 = day1.1; day_last = day_last.1 }

pub time_is_gregorian : (t : Time) → is_time t ≡ true → Gregorian t
time_is_gregorian t e =
    let second59 = bound _ _ _ e in
    let minute59 = bound _ _ _ second59.0 in
    let hour23 = bound _ _ _ minute59.0 in
    record { on_date = date_in_range t.date hour23.0; hour23 = hour23.1; minute59 = minute59.1; second59 = second59.1 }

-- A date or a time in range passes its test.
pub in_range_is_date : (d : Date) → DateInRange d → is_date d ≡ true
in_range_is_date d h = simp (le-leb _ _ h.from1900, le-leb _ _ h.to2399, le-leb _ _ h.month1, le-leb _ _ h.month12, le-leb _ _ h.day1, le-leb _ _ h.day_last)

pub gregorian_is_time : (t : Time) → Gregorian t → is_time t ≡ true
gregorian_is_time t h = simp (in_range_is_date t.date h.on_date, le-leb _ _ h.hour23, le-leb _ _ h.minute59, le-leb _ _ h.second59)

-- The octets of a Gregorian time are read as that time, and others as none.
module _ (xs : List ℕ) (p : ℕ) where
  pub read_time : Gregorian (octets_time xs p) → time_at xs p ≡ Some (octets_time xs p)
  read_time h = rw (gregorian_is_time (octets_time xs p) h)

  pub read_no_date : is_date (octets_time xs p).date ≡ false → time_at xs p ≡ None
  read_no_date e = simp e

  pub read_no_time : (Gregorian (octets_time xs p) → ⊥) → time_at xs p ≡ None
  read_no_time out = split (is_time (octets_time xs p)) (λ e. absurd (out (time_is_gregorian (octets_time xs p) e))) (λ e. rw e)
