-- The leap rule and the calendar's end at work, each computed from the definitions.
use mathlib.Core.Path.{◌≡◌, refl}
use Prim.Native.Nat.{ℕ}
use Rattle.calendar.specs.declared.Time.{Time}
use Rattle.calendar.specs.declared.Unit.TheVariants as Unit
use Rattle.calendar.specs.Calendar.{is_leap, month_length, date, tomorrow, days_after, plus}
use Rattle.std.specs.Prelude.{Some, None}

-- The time at which a day begins.
abbrev begins : ℕ → ℕ → ℕ → Time
begins year month day = record { date = date year month day; hour = 0; minute = 0; second = 0 }

-- 1900 is no leap year, and 2000 is one.
march_1900 : plus (begins 1900 2 28) 1 Unit.Day ≡ Some (begins 1900 3 1)
unfolding is_leap month_length tomorrow days_after
march_1900 = refl

february_2000 : plus (begins 2000 2 28) 1 Unit.Day ≡ Some (begins 2000 2 29)
unfolding is_leap month_length tomorrow days_after
february_2000 = refl

-- The calendar's last minute has none after it.
last_minute : plus (record { date = date 2399 12 31; hour = 23; minute = 59; second = 0 }) 1 Unit.Minute ≡ None
unfolding is_leap month_length tomorrow days_after
last_minute = refl
