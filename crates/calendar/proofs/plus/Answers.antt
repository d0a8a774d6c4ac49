-- `calendar::plus` meets its contract: the date that the seconds lead to, day after day, is the one that has the counted number.
use mathlib.Core.Path.{sym}
use Prim.Native.Nat.{◌*◌, ◌^◌, ◌≤◌}
use native.Mathlib.Omega.{arith}
use native.Mathlib.Nat.{le_of_lt, mul-le-mul}
use Rattle.calendar.proofs.Times.{passes_2399, stays_within}
use Rattle.calendar.proofs.Days.{to_2399, in_range_is_real}
use Rattle.calendar.proofs.plus.Goals.{After-seconds_in}
use Rattle.calendar.proofs.plus.Goals as goal

-- The largest count of the longest unit makes seconds that 64 bits hold with ease.
few : (c : After-seconds_in) → c.args.count * c.seconds_in.result ≤ 2 ^ 32 * 86400
few c = mul-le-mul (le_of_lt c.ranges.count.fits) c.seconds_in.ensures.1

pub overflow_mul-seconds : goal.overflow_mul-seconds
overflow_mul-seconds c = omega (arith, few (goal.at.overflow_mul-seconds c).After-seconds_in)

pub overflow_add-seconds : goal.overflow_add-seconds
overflow_add-seconds c = omega (arith, few (goal.at.overflow_add-seconds c).After-seconds_in)

pub overflow_add-number : goal.overflow_add-number
overflow_add-number c =
    omega (arith, few (goal.at.overflow_add-number c).After-seconds_in, to_2399 c.args.time.date (in_range_is_real c.requires.on_date) c.requires.on_date.to2399)

pub returns-then-number-ge876582 : goal.returns-then-number-ge876582
returns-then-number-ge876582 c =
    let number = rw (c.seconds_in.ensures.0, c.day_number.ensures) at c.if-number-ge876582.true in
    sym (passes_2399 _ _ c.requires number)

pub returns : goal.returns
returns c =
    let units = c.seconds_in.ensures.0 in
    let number = rw (units, c.day_number.ensures) at c.date_of-date.ensures.1 in
    rw units (sym (stays_within _ _ c.requires _ c.date_of-date.ensures.0 number (omega (arith, c.date_of-date.ensures.1))))
