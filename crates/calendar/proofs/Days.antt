-- Days follow one another as their numbers do, and dates come in the order of their numbers.
use mathlib.Core.Path.{◌≡◌, ap, ◌∙◌}
use Prim.Native.Nat.{ℕ, zero, suc, ◌+◌, ◌-◌, ◌*◌, ◌≤◌, ◌<◌}
use native.Mathlib.Omega.{arith}
use borrow.Author.Tests.{ltb-true, ltb-false}
use lib.Dec.{ltb}
use Rattle.octets.proofs.Cases.{split}
use Rattle.calendar.specs.declared.Date.{Date}
use Rattle.calendar.specs.Calendar.{month_length, tomorrow, days_after, DateInRange}
use Rattle.calendar.specs.Count.{year_length, days_before_year, days_in_months, day_number, RealDate}
use Rattle.calendar.proofs.General.{comes_back, same_digits}
use Rattle.calendar.proofs.Years.{years_grow, year_more, days_before_year_lem}
use Rattle.calendar.proofs.Months.{month_bounds, months_grow, twelve_months, month_passed}

-- A date of the years 1900 to 2399 is a real date.
pub in_range_is_real : {d : Date} → DateInRange d → RealDate d
in_range_is_real h = omega arith

-- The day after a real date is a real date, and has one day more before it.
tomorrow_counts : (d : Date) → RealDate d → RealDate (tomorrow d) × (day_number (tomorrow d) ≡ day_number d + 1)
unfolding tomorrow days_in_months
tomorrow_counts d h =
    let passed = month_passed d.year d.month h.month1 in
    split (ltb d.day (month_length d.year d.month))
    (λ within. simp within (omega (arith, ltb-true)))
    (λ within.
    split (ltb d.month 12)
    (λ month.
    let same : d.month + 1 - 1 ≡ d.month = omega arith in
    simp (within, month, same) (omega (arith, ltb-true, ltb-false, month_bounds d.year (d.month + 1))))
    (λ month.
    let december : d.month ≡ 12 = omega (arith, ltb-false) in
    let last : days_in_months d.year d.month ≡ year_length d.year = ap (days_in_months d.year) december ∙ twelve_months d.year in
    simp (within, month) (omega (arith, ltb-false, month_bounds (d.year + 1) 1, year_more d.year))))

-- So many days later is a real date with so many days more before it.
pub later_counts : (n : ℕ) (d : Date) → RealDate d → RealDate (days_after n d) × (day_number (days_after n d) ≡ day_number d + n)
unfolding days_after
later_counts zero d h = omega arith
later_counts (suc n) d h =
    let before = later_counts n d h in
    let last = tomorrow_counts (days_after n d) before.0 in
    omega arith

-- The date as a number of eight digits.
abbrev pub eight_digits : Date → ℕ
eight_digits d = (d.year * 100 + d.month) * 100 + d.day

-- A day lies before the next month and before the next year.
module _ (d : Date) (h : RealDate d) where
  within_month : day_number d < days_before_year d.year + days_in_months d.year d.month
  within_month = omega (arith, month_passed d.year d.month h.month1)

  pub within_year : day_number d < days_before_year (d.year + 1)
  within_year = omega (arith, within_month, months_grow d.year d.month 12 h.month12, twelve_months d.year, year_more d.year)

-- The earlier of two dates by their digits has fewer days before it.
module _ (d e : Date) (h : RealDate d) (k : RealDate e) where
  earlier_in_year : d.year ≡ e.year → d.month * 100 + d.day < e.month * 100 + e.day → day_number d < day_number e
  earlier_in_year year less =
      let days : days_before_year d.year ≡ days_before_year e.year = cc in
      split (ltb d.month e.month)
      (λ month.
      let same : days_in_months d.year d.month ≡ days_in_months e.year d.month = cc in
      omega (arith, within_month d h, months_grow e.year d.month (e.month - 1) (omega (arith, ltb-true))))
      (λ month.
      let equal : d.month ≡ e.month = omega (arith, ltb-false, month_bounds d.year d.month, month_bounds e.year e.month) in
      let same : days_in_months d.year (d.month - 1) ≡ days_in_months e.year (e.month - 1) = cc in
      omega arith)

  pub earlier : eight_digits d < eight_digits e → day_number d < day_number e
  earlier less =
      split (ltb d.year e.year)
      (λ year. omega (arith, within_year d h, years_grow (d.year + 1) e.year (omega (arith, ltb-true))))
      (λ year.
      let equal : d.year ≡ e.year = omega (arith, ltb-false, month_bounds d.year d.month, month_bounds e.year e.month) in
      earlier_in_year equal (omega arith))

-- Of two dates the one with no fewer days before it has no smaller digits.
pub later : (d e : Date) → RealDate d → RealDate e → day_number d ≤ day_number e → eight_digits d ≤ eight_digits e
later d e h k = comes_back _ _ _ _ (earlier e d k h)

-- No day brings an earlier year.
pub years_pass : (n : ℕ) (d : Date) → RealDate d → d.year ≤ (days_after n d).year
years_pass n d h =
    let after = later_counts n d h in
    omega (arith, later d (days_after n d) h after.0 (omega arith), month_bounds (days_after n d).year (days_after n d).month)

-- A date is known by its digits.
pub same_date : (d e : Date) → RealDate d → RealDate e → eight_digits d ≡ eight_digits e → d ≡ e
same_date d e h k same =
    let days = month_bounds d.year d.month in
    let others = month_bounds e.year e.month in
    let day = same_digits (d.year * 100 + d.month) d.day (e.year * 100 + e.month) e.day (omega arith) (omega arith) same in
    let month = same_digits d.year d.month e.year e.month (omega arith) (omega arith) day.0 in
    λ i. record { year = month.0 i; month = month.1 i; day = day.1 i }

-- A date is known by the days before it.
pub same_number : (d e : Date) → RealDate d → RealDate e → day_number d ≡ day_number e → d ≡ e
same_number d e h k same = same_date d e h k (omega (arith, later d e h k (omega arith), later e d k h (omega arith)))

-- The days of the years to 2399 are those with fewer than 876,582 days before them.
pub to_2399 : (d : Date) → RealDate d → d.year ≤ 2399 → day_number d < 876582
to_2399 d h year = omega (arith, within_year d h, years_grow (d.year + 1) 2400 (omega arith), days_before_year_lem 2400)

pub past_2399 : (d : Date) → 2399 < d.year → 876582 ≤ day_number d
past_2399 d year = omega (arith, years_grow 2400 d.year year, days_before_year_lem 2400)
