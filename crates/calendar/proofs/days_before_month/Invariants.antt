-- `calendar::days_before_month` meets its contract. The invariant: `days` are the days of the months before `passed`.
use mathlib.Core.Path.{◌≡◌}
use Prim.Native.Nat.{◌-◌, ◌≤◌}
use Rattle.calendar.specs.Count.{days_in_months}
use Rattle.calendar.proofs.days_before_month.Given as goal

abbrev pub invariant-loop-passed : goal.invariant-loop-passed
invariant-loop-passed l = (l.passed - 1 ≤ l.month - 1) × (l.days ≡ days_in_months l.year (l.passed - 1))
