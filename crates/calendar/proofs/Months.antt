-- The days of a year's months.
use mathlib.Core.Path.{◌≡◌}
use mathlib.Core.Bool.{◌||◌}
use Prim.Native.Nat.{ℕ, zero, suc, ◌+◌, ◌-◌, ◌*◌, ◌≤◌}
use native.Mathlib.Numerals.{add-one}
use native.Mathlib.Omega.{arith}
use lib.Dec.{eqb}
use Rattle.octets.proofs.Cases.{split}
use Rattle.calendar.specs.Calendar.{is_leap, month_length}
use Rattle.calendar.specs.Count.{year_length, days_in_months}
use Rattle.calendar.proofs.General.{grows}

-- A month has 28 to 31 days.
pub month_bounds : (year month : ℕ) → (28 ≤ month_length year month) × (month_length year month ≤ 31)
unfolding month_length
month_bounds year month =
    split (eqb month 2) (λ february. split (is_leap year) (λ leap. simp (february, leap) (omega arith)) (λ leap. simp (february, leap) (omega arith)))
    (λ february.
    split (eqb month 4 || eqb month 6 || eqb month 9 || eqb month 11) (λ short. simp (february, short) (omega arith)) (λ short. simp (february, short) (omega arith)))

-- The twelve months make the year.
pub twelve_months : (year : ℕ) → days_in_months year 12 ≡ year_length year
unfolding days_in_months month_length
twelve_months year = split (is_leap year) (λ leap. simp leap) (λ leap. simp leap)

-- A month more.
pub month_more : (year n : ℕ) → days_in_months year (n + 1) ≡ days_in_months year n + month_length year (n + 1)
unfolding days_in_months
month_more year n = rw add-one

-- More months have no fewer days.
pub months_grow : (year m n : ℕ) → m ≤ n → days_in_months year m ≤ days_in_months year n
unfolding days_in_months
months_grow year = grows (days_in_months year) (λ n. omega arith)

-- No month has more than 31 days.
pub months_at_most : (year n : ℕ) → days_in_months year n ≤ 31 * n
unfolding days_in_months
months_at_most year zero = omega arith
months_at_most year (suc n) = omega (arith, months_at_most year n, month_bounds year (suc n))

-- The days to a month's end are those to its start and its own.
pub month_passed : (year month : ℕ) → 1 ≤ month → days_in_months year month ≡ days_in_months year (month - 1) + month_length year month
month_passed year month h = let same : month - 1 + 1 ≡ month = omega arith in rw same at (month_more year (month - 1))

-- The laws by which the months passed are counted.
pub ruleset counted = (month_passed, months_at_most, month_bounds)
