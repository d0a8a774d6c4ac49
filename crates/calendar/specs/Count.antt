-- RULES, "Section 1": how the code counts the days before a date, from the year 0 on, as if the calendar had held since then. Nothing here is believed:
-- the proofs join it to the days that follow one another.
use Rattle.std.specs.Prelude.{ℕ, zero, suc, ◌+◌, ◌-◌, ◌≤◌, ◌<◌, cond}
use Rattle.calendar.specs.declared.Date.{Date}
use Rattle.calendar.specs.Calendar.{is_leap, month_length}

abbrev pub year_length : ℕ → ℕ
year_length year = cond (is_leap year) 366 365

-- The days of the years before a year.
unfoldable pub days_before_year : ℕ → ℕ
days_before_year zero = 0
days_before_year (suc year) = days_before_year year + year_length year

-- The days of a year's first n months.
unfoldable pub days_in_months : ℕ → ℕ → ℕ
days_in_months year zero = 0
days_in_months year (suc n) = days_in_months year n + month_length year (suc n)

-- The days that lie before a date.
abbrev pub day_number : Date → ℕ
day_number d = days_before_year d.year + days_in_months d.year (d.month - 1) + (d.day - 1)

-- A date of any year: a day of its month, and a month of the twelve.
pub record RealDate (d : Date) : Type 0 where
  pub month1 : 1 ≤ d.month
  pub month12 : d.month ≤ 12
  pub day1 : 1 ≤ d.day
  pub day_last : d.day ≤ month_length d.year d.month

-- The day with so many days before it lies in the year.
pub record InYear (number year : ℕ) : Type 0 where
  pub to2399 : year ≤ 2399
  pub after : days_before_year year ≤ number
  pub before : number < days_before_year (year + 1)
