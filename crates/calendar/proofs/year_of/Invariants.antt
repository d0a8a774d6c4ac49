-- `calendar::year_of` meets its contract. The invariant: the year begins no later than the day. It holds at first, since no year has more than 366 days.
use Prim.Native.Nat.{◌-◌, ◌≤◌}
use Rattle.calendar.specs.Count.{days_before_year}
use Rattle.calendar.proofs.year_of.Given as goal

abbrev pub invariant-loop-year : goal.invariant-loop-year
invariant-loop-year l = (l.year ≤ 2399) × (days_before_year l.year ≤ l.number)

abbrev pub decreases-loop-year : goal.decreases-loop-year
decreases-loop-year l = 2400 - l.year
