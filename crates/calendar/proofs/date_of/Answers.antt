-- `calendar::date_of` meets its contract: the days that are left of the year when eleven months are passed are December's.
use mathlib.Core.Path.{◌≡◌}
use native.Mathlib.Omega.{arith}
use Rattle.calendar.proofs.Months.{month_passed, twelve_months}
use Rattle.calendar.proofs.Years.{year_more}
use Rattle.calendar.proofs.date_of.Goals as goal

pub returns : goal.returns
returns c =
    let year = c.year_of-year.result in
    let december : c.loop-month.month ≡ 12 = omega arith in
    let left = rw december at c.loop-month.invariant in
    omega (arith, left, year_more year, twelve_months year, month_passed year 12 (omega arith), c.year_of-year.ensures.before)
