-- RULES, "Section 1": the Gregorian calendar as days that follow one another, and the times that are taken: years 1900 to 2399, seconds 0 to 59.
use Rattle.std.specs.Prelude.{ℕ, zero, suc, ◌+◌, ◌*◌, ◌/◌, ◌%◌, ◌≤◌, Bool, not, ◌&&◌, ◌||◌, cond, List, [], ◌∷◌, ◌++◌, eqb, ltb, leb, ◌≡◌, Option, Some, None, Result, Ok, Err}
use Rattle.octets.specs.Numbers.{octet_at, number_at}
use Rattle.calendar.specs.declared.Date.{Date}
use Rattle.calendar.specs.declared.Time.{Time}
use Rattle.calendar.specs.declared.Unit as declaredUnit
use Rattle.calendar.specs.declared.Unit.TheVariants as Unit
use Rattle.std.specs.declared.cmp.Ordering.{Ordering}
use Rattle.calendar.specs.declared.UnknownUnit.{UnknownUnit}

-- Every fourth year is a leap year, of the hundredth years only every fourth.
unfoldable pub is_leap : ℕ → Bool
is_leap year = eqb (year % 4) 0 && (not (eqb (year % 100) 0) || eqb (year % 400) 0)

-- How many days a month has.
unfoldable pub month_length : ℕ → ℕ → ℕ
month_length year month =
    cond (eqb month 2) (cond (is_leap year) 29 28)
    (cond (eqb month 4 || eqb month 6 || eqb month 9 || eqb month 11) 30
    31)

abbrev pub date : ℕ → ℕ → ℕ → Date
date year month day = record { year = year; month = month; day = day }

-- The day after: in the same month, or the first of the next month, or the first of the next year.
unfoldable pub tomorrow : Date → Date
tomorrow d =
    cond (ltb d.day (month_length d.year d.month)) (date d.year d.month (d.day + 1))
    (cond (ltb d.month 12) (date d.year (d.month + 1) 1)
    (date (d.year + 1) 1 1))

-- The date so many days after another.
unfoldable pub days_after : ℕ → Date → Date
days_after zero d = d
days_after (suc n) d = tomorrow (days_after n d)

-- The time so many seconds after another. A day has 86,400 of them.
abbrev pub second_of_day : Time → ℕ
second_of_day t = (t.hour * 60 + t.minute) * 60 + t.second

abbrev pub at_second : Date → ℕ → Time
at_second d s = record { date = days_after (s / 86400) d; hour = s / 3600 % 24; minute = s / 60 % 60; second = s % 60 }

abbrev pub seconds_after : ℕ → Time → Time
seconds_after n t = at_second t.date (second_of_day t + n)

-- The unit that a number stands for: 0 minute, 1 hour, 2 day, and no other.
abbrev pub unit_of : ℕ → Result declaredUnit.Unit UnknownUnit
unit_of number =
    cond (eqb number 0) (Ok Unit.Minute)
    (cond (eqb number 1) (Ok Unit.Hour)
    (cond (eqb number 2) (Ok Unit.Day)
    (Err (record { 0 = number }))))

-- The conversion of a number gives that unit.
abbrev pub GivesUnit : ℕ → Result declaredUnit.Unit UnknownUnit → Type 0
GivesUnit number unit = unit ≡ unit_of number

-- How many seconds a unit has.
abbrev pub seconds_in : declaredUnit.Unit → ℕ
seconds_in Unit.Minute = 60
seconds_in Unit.Hour = 3600
seconds_in Unit.Day = 86400

-- RULES, "Section 4": a sum that leads past the last year that is taken is no time.
abbrev pub until2399 : Time → Option Time
until2399 t = cond (leb t.date.year 2399) (Some t) None

-- The time so many minutes, hours or days after another.
abbrev pub plus : Time → ℕ → declaredUnit.Unit → Option Time
plus t count unit = until2399 (seconds_after (count * seconds_in unit) t)

-- RULES, "Section 1": which times are taken, as a test and as what it tells. There is no leap second.
abbrev pub is_date : Date → Bool
is_date d = leb 1900 d.year && leb d.year 2399 && leb 1 d.month && leb d.month 12 && leb 1 d.day && leb d.day (month_length d.year d.month)

abbrev pub is_time : Time → Bool
is_time t = is_date t.date && leb t.hour 23 && leb t.minute 59 && leb t.second 59

pub record DateInRange (d : Date) : Type 0 where
  pub from1900 : 1900 ≤ d.year
  pub to2399 : d.year ≤ 2399
  pub month1 : 1 ≤ d.month
  pub month12 : d.month ≤ 12
  pub day1 : 1 ≤ d.day
  pub day_last : d.day ≤ month_length d.year d.month

pub record Gregorian (t : Time) : Type 0 where
  pub on_date : DateInRange t.date
  pub hour23 : t.hour ≤ 23
  pub minute59 : t.minute ≤ 59
  pub second59 : t.second ≤ 59

-- The seven octets from place p on: two of the year, then month, day, hour, minute and second.
abbrev pub octets_time : List ℕ → ℕ → Time
octets_time xs p =
    record {
      date = date (number_at xs p 2) (octet_at xs (p + 2)) (octet_at xs (p + 3));
      hour = octet_at xs (p + 4);
      minute = octet_at xs (p + 5);
      second = octet_at xs (p + 6);
    }

abbrev pub time_at : List ℕ → ℕ → Option Time
time_at xs p = cond (is_time (octets_time xs p)) (Some (octets_time xs p)) None

-- The 14 digits of a time, as one number.
abbrev pub fourteen_digits : Time → ℕ
fourteen_digits t = (((((t.date.year * 100 + t.date.month) * 100 + t.date.day) * 100 + t.hour) * 100 + t.minute) * 100) + t.second

-- The same as characters: four digits of the year, two each of the rest. A digit is the octet of its character, 48 for "0".
abbrev pub digit : ℕ → ℕ
digit n = 48 + n % 10

abbrev pub two_digits : ℕ → List ℕ
two_digits n = digit (n / 10) ∷ digit n ∷ []

abbrev pub digits_of : Time → List ℕ
digits_of t =
    two_digits (t.date.year / 100)
    ++ two_digits t.date.year
    ++ two_digits t.date.month
    ++ two_digits t.date.day
    ++ two_digits t.hour
    ++ two_digits t.minute
    ++ two_digits t.second

-- Which of two times comes first, by their digits.
abbrev pub ordered : Time → Time → Ordering
ordered a b = cond (ltb (fourteen_digits a) (fourteen_digits b)) Ordering.Less (cond (ltb (fourteen_digits b) (fourteen_digits a)) Ordering.Greater Ordering.Equal)
