-- What a caller may rely on: which times are read, that a time moved on is a time, and that the order of the digits is the order of time.
use mathlib.Core.Path.{◌≡◌, ap, subst, ◌∙◌}
use mathlib.Core.List.{List}
use Prim.Native.Nat.{ℕ, ◌+◌, ◌-◌, ◌*◌, ◌/◌, ◌<◌}
use native.Mathlib.Omega.{arith}
use borrow.Author.Tests.{leb-true, ltb-true, ltb-false}
use lib.Dec.{leb, ltb}
use Rattle.octets.proofs.Cases.{apart, split}
use Rattle.calendar.specs.declared.Time.{Time}
use Rattle.calendar.specs.declared.Unit.{Unit}
use Rattle.calendar.specs.Calendar.{octets_time, time_at, is_time, Gregorian, plus, second_of_day, seconds_in, seconds_after, fourteen_digits}
use Rattle.calendar.proofs.Tests.{time_is_gregorian}
use Rattle.calendar.proofs.Days.{years_pass, in_range_is_real}
use Rattle.calendar.proofs.Times.{gregorian_is_real, real_is_gregorian, second_number, seconds_count, earlier_time, later_time, same_second, same_time}
use Rattle.std.specs.Prelude.{Some}

-- A time that is read is Gregorian.
pub read_is_gregorian : (xs : List ℕ) (p : ℕ) (t : Time) → time_at xs p ≡ Some t → Gregorian t
read_is_gregorian xs p t read =
    split (is_time (octets_time xs p)) (λ e. let same : octets_time xs p ≡ t = cc in subst Gregorian same (time_is_gregorian _ e))
    (λ e. apart cc)

-- A Gregorian time moved on is Gregorian, where the calendar still has it.
pub plus_is_gregorian : (t s : Time) (n : ℕ) (unit : Unit) → Gregorian t → plus t n unit ≡ Some s → Gregorian s
plus_is_gregorian t s n unit h e =
    let moved = seconds_after (n * seconds_in unit) t in
    let real = (seconds_count (n * seconds_in unit) t (gregorian_is_real h)).0 in
    let passed = years_pass ((second_of_day t + n * seconds_in unit) / 86400) t.date (in_range_is_real h.on_date) in
    split (leb moved.date.year 2399)
    (λ test.
    let same : moved ≡ s = cc in
    subst Gregorian same (real_is_gregorian real (omega arith) (leb-true _ _ test)))
    (λ test. apart cc)

-- To add n seconds and then m is to add n + m.
pub plus_plus : (t : Time) (n m : ℕ) → Gregorian t → seconds_after m (seconds_after n t) ≡ seconds_after (n + m) t
plus_plus t n m h =
    let first = seconds_count n t (gregorian_is_real h) in
    let second = seconds_count m (seconds_after n t) first.0 in
    let at_once = seconds_count (n + m) t (gregorian_is_real h) in
    same_second _ _ second.0 at_once.0 (omega arith)

-- The time with the greater digits comes after the other.
pub order_is_counting : (a b : Time) → Gregorian a → Gregorian b → fourteen_digits a < fourteen_digits b → (n : ℕ) × (0 < n) × (b ≡ seconds_after n a)
order_is_counting a b h k less =
    let n = second_number b - second_number a in
    let after = seconds_count n a (gregorian_is_real h) in
    let fewer = earlier_time a b (gregorian_is_real h) (gregorian_is_real k) less in
    (n, omega arith, same_second b (seconds_after n a) (gregorian_is_real k) after.0 (omega arith))

-- A time that comes after another has the greater digits.
pub counting_is_order : (a b : Time) (n : ℕ) → Gregorian a → Gregorian b → 0 < n → b ≡ seconds_after n a → fourteen_digits a < fourteen_digits b
counting_is_order a b n h k some same =
    let before = gregorian_is_real h in
    let after = gregorian_is_real k in
    let number : second_number b ≡ second_number a + n = ap second_number same ∙ (seconds_count n a before).1 in
    let no_less = later_time a b before after (omega arith) in
    split (ltb (fourteen_digits a) (fourteen_digits b)) (ltb-true _ _)
    (λ test.
    let equal : second_number a ≡ second_number b = ap second_number (same_time a b before after (omega (arith, ltb-false))) in
    absurd (omega arith))

-- Times with the same digits are the same.
pub same_digits_same_time : (a b : Time) → Gregorian a → Gregorian b → fourteen_digits a ≡ fourteen_digits b → a ≡ b
same_digits_same_time a b h k = same_time a b (gregorian_is_real h) (gregorian_is_real k)
