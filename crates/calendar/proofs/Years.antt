-- The days of whole years, counted by the leap rule.
use mathlib.Core.Path.{◌≡◌, refl}
use mathlib.Core.Bool.{false, cond}
use Prim.Native.Nat.{ℕ, zero, suc, ◌+◌, ◌*◌, ◌/◌, ◌%◌, ◌≤◌}
use native.Mathlib.Numerals.{add-one}
use native.Mathlib.Omega.{arith}
use borrow.Author.Tests.{eqb-true, eqb-false, ne_eqb}
use lib.Dec.{eqb}
use Rattle.octets.proofs.Cases.{split}
use Rattle.calendar.specs.Calendar.{is_leap}
use Rattle.calendar.specs.Count.{year_length, days_before_year}
use Rattle.calendar.proofs.General.{grows}

-- From one year to the next a quotient grows by 1 where the division leaves nothing, and else stays.
by_4 : (year : ℕ) → (suc year + 3) / 4 ≡ (year + 3) / 4 + cond (eqb (year % 4) 0) 1 0
by_4 year = split (eqb (year % 4) 0) (λ e. simp e (omega (arith, eqb-true))) (λ e. simp e (omega (arith, eqb-false)))

by_100 : (year : ℕ) → (suc year + 99) / 100 ≡ (year + 99) / 100 + cond (eqb (year % 100) 0) 1 0
by_100 year = split (eqb (year % 100) 0) (λ e. simp e (omega (arith, eqb-true))) (λ e. simp e (omega (arith, eqb-false)))

by_400 : (year : ℕ) → (suc year + 399) / 400 ≡ (year + 399) / 400 + cond (eqb (year % 400) 0) 1 0
by_400 year = split (eqb (year % 400) 0) (λ e. simp e (omega (arith, eqb-true))) (λ e. simp e (omega (arith, eqb-false)))

-- A year that is no multiple of 4 is none of 100, and one that is none of 100 is none of 400.
no_hundredth : (year : ℕ) → eqb (year % 4) 0 ≡ false → eqb (year % 100) 0 ≡ false
no_hundredth year e = ne_eqb (year % 100) 0 (omega (arith, eqb-false))

no_four_hundredth : (year : ℕ) → eqb (year % 100) 0 ≡ false → eqb (year % 400) 0 ≡ false
no_four_hundredth year e = ne_eqb (year % 400) 0 (omega (arith, eqb-false))

-- A year has a day more where it is a multiple of 4, a day less where one of 100, and a day more where one of 400.
year_length_lem : (year : ℕ) → year_length year + cond (eqb (year % 100) 0) 1 0 ≡ 365 + cond (eqb (year % 4) 0) 1 0 + cond (eqb (year % 400) 0) 1 0
unfolding is_leap
year_length_lem year =
    split (eqb (year % 4) 0)
    (λ fourth.
    split (eqb (year % 100) 0)
    (λ hundredth.
    split (eqb (year % 400) 0) (λ fourHundredth. simp (fourth, hundredth, fourHundredth)) (λ fourHundredth. simp (fourth, hundredth, fourHundredth)))
    (λ hundredth. simp (fourth, hundredth, no_four_hundredth year hundredth)))
    (λ fourth. simp (fourth, no_hundredth year fourth, no_four_hundredth year (no_hundredth year fourth)))

-- The days before a year by the quotients that the code takes.
pub days_before_year_lem : (year : ℕ) → days_before_year year + (year + 99) / 100 ≡ year * 365 + (year + 3) / 4 + (year + 399) / 400
unfolding days_before_year
days_before_year_lem zero = refl
days_before_year_lem (suc year) = rw (by_4 year, by_100 year, by_400 year) (omega (arith, days_before_year_lem year, year_length_lem year))

-- A year more.
pub year_more : (year : ℕ) → days_before_year (year + 1) ≡ days_before_year year + year_length year
unfolding days_before_year
year_more year = rw add-one

-- A later year has no fewer days before it.
pub years_grow : (m n : ℕ) → m ≤ n → days_before_year m ≤ days_before_year n
unfolding days_before_year
years_grow = grows days_before_year (λ n. omega arith)

-- No year has more than 366 days.
pub years_at_most : (n : ℕ) → days_before_year n ≤ 366 * n
unfolding days_before_year
years_at_most zero = omega arith
years_at_most (suc n) = split (is_leap n) (λ e. simp e (omega (arith, years_at_most n))) (λ e. simp e (omega (arith, years_at_most n)))
