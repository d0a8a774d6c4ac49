-- The order by the parts of a time is the order by its digits.
use mathlib.Core.Path.{◌≡◌, refl, sym, ◌∙◌}
use Prim.Native.Nat.{ℕ, ◌+◌, ◌*◌, ◌<◌}
use native.Mathlib.Omega.{arith}
use Rattle.std.specs.Ordering.{nat_cmp, ordering_then}
use Rattle.std.proofs.lemmas.Bool.Decides.{nat_tests}
use Rattle.std.specs.declared.cmp.Ordering.{Ordering}
use Rattle.calendar.specs.declared.Time.{Time}
use Rattle.calendar.specs.Calendar.{Gregorian, fourteen_digits, ordered}
use Rattle.calendar.proofs.Months.{month_bounds}

-- Two parts, the second below 100, come in the order of the number whose digits they are.
two_parts : (x y m n : ℕ) → m < 100 → n < 100 → ordering_then (nat_cmp x y) (nat_cmp m n) ≡ nat_cmp (x * 100 + m) (y * 100 + n)
two_parts x y m n few fewer = grind (arith, nat_tests)

-- Of three parts it is the same whether the last two or the first two are taken together.
then_then : (o p q : Ordering) → ordering_then o (ordering_then p q) ≡ ordering_then (ordering_then o p) q
then_then Ordering.Less p q = refl
then_then Ordering.Equal p q = refl
then_then Ordering.Greater p q = refl

-- Six parts, of which all but the first are below 100.
six_parts :
    (y y' m m' d d' h h' n n' s s' : ℕ)
    → m < 100 → m' < 100 → d < 100 → d' < 100 → h < 100 → h' < 100 → n < 100 → n' < 100 → s < 100 → s' < 100
    → ordering_then (ordering_then (nat_cmp y y') (ordering_then (nat_cmp m m') (nat_cmp d d'))) (ordering_then (nat_cmp h h') (ordering_then (nat_cmp n n') (nat_cmp s s')))
    ≡ nat_cmp (((((y * 100 + m) * 100 + d) * 100 + h) * 100 + n) * 100 + s) (((((y' * 100 + m') * 100 + d') * 100 + h') * 100 + n') * 100 + s')
six_parts y y' m m' d d' h h' n n' s s' m1 m2 d1 d2 h1 h2 n1 n2 s1 s2 = rw (then_then, then_then, then_then, two_parts, two_parts, two_parts, two_parts, two_parts)

-- The order by the digits is that of their numbers.
pub ordered_lem : (a b : Time) → ordered a b ≡ nat_cmp (fourteen_digits a) (fourteen_digits b)
ordered_lem a b = grind (arith, nat_tests)

-- Of Gregorian times the parts compared one after the other tell what the digits tell.
pub by_digits :
    (a b : Time) → Gregorian a → Gregorian b → ordering_then
    (ordering_then (nat_cmp a.date.year b.date.year) (ordering_then (nat_cmp a.date.month b.date.month) (nat_cmp a.date.day b.date.day)))
    (ordering_then (nat_cmp a.hour b.hour) (ordering_then (nat_cmp a.minute b.minute) (nat_cmp a.second b.second)))
    ≡ ordered a b
by_digits a b h k =
    let day = month_bounds a.date.year a.date.month in
    let other = month_bounds b.date.year b.date.month in
    six_parts a.date.year b.date.year a.date.month b.date.month a.date.day b.date.day a.hour b.hour a.minute b.minute a.second b.second
    (omega arith) (omega arith) (omega arith) (omega arith) (omega arith) (omega arith) (omega arith) (omega arith) (omega arith) (omega arith)
    ∙ sym (ordered_lem a b)
