-- `calendar::date_of` meets its contract. The invariant: the days before the year, those of the months passed and `rest` make up the number.
use mathlib.Core.Path.{◌≡◌}
use Prim.Native.Nat.{◌+◌, ◌-◌}
use Rattle.calendar.specs.Count.{days_before_year, days_in_months}
use Rattle.calendar.proofs.date_of.Given as goal

abbrev pub invariant-loop-month : goal.invariant-loop-month
invariant-loop-month l = days_before_year l.year + days_in_months l.year (l.month - 1) + l.rest ≡ l.number
