-- The laws of text, each once: pieces that are put one behind the other, and the decimal digits of a number.
use mathlib.Core.Path.{◌≡◌, refl, sym, ap, ap₂, ◌∙◌}
use mathlib.Core.Bool.{cond}
use mathlib.Core.List.{List, [], ◌∷◌, ◌++◌, append-nil}
use Prim.Native.Nat.{ℕ, zero, suc, ◌+◌, ◌-◌, ◌*◌, ◌/◌, ◌^◌, ◌≤◌, ◌<◌}
use native.Mathlib.Nat.{pow-suc, pow-zero, div-lt_iff_lt-mul}
use native.Mathlib.Omega.{arith}
use lib.Dec.{eqb, ltb}
use lib.ListN.{length, set, drop, length-append, length-set, drop_of_length-le}
use lib.Seq.{drop-cons, drop-set-lt, get_or-set_same, append_snoc}
use borrow.Author.Tests.{ltb-true, ltb-false, eq-eqb, ne_eqb, eqb-true, eqb-false, lt-ltb, le-ltb}
use Rattle.octets.proofs.Cases.{split}
use Rattle.calendar.specs.Calendar.{digit}
use Rattle.text.specs.Text.{spelt, decimal, read_behind, read_back}

-- The digits that stand before the last one of a number are those of its tenth, and none where that is 0.
abbrev pub leading : ℕ → ℕ → List ℕ
leading most tenth = cond (eqb tenth 0) [] (spelt most tenth)

-- A number is spelt by the digits before the last one, and then the last one.
pub spelt_last : (most n : ℕ) → spelt (suc most) n ≡ leading most (n / 10) ++ (digit n ∷ [])
unfolding spelt
spelt_last most n =
    split
    (ltb n 10)
    (λ small. simp (small, eq-eqb (n / 10) 0 (omega (arith, ltb-true n 10 small))))
    (λ large. simp (large, ne_eqb (n / 10) 0 (λ none. omega (arith, ltb-false n 10 large))))

pub leading_none : (most tenth : ℕ) → tenth ≡ 0 → leading most tenth ≡ []
leading_none most tenth none = rw (eq-eqb tenth 0 none)

leading_some : (most tenth : ℕ) → 0 < tenth → leading most tenth ≡ spelt most tenth
leading_some most tenth some = rw (ne_eqb tenth 0 (λ none. omega arith))

-- A store lengthens by one what stands from a place on.
drop_store : (run : List ℕ) (i d : ℕ) → i < length run → drop i (set run i d) ≡ d ∷ drop (suc i) run
drop_store run i d inside =
    drop-cons (set run i d) i 0 (rw length-set inside)
    ∙ ap₂ (λ (octet : ℕ) (rest : List ℕ). octet ∷ rest) (get_or-set_same run i d 0 inside) (drop-set-lt (suc i) run i d (omega arith))

-- The digits of what is left of a number are to stand before place `most`. Its last digit is stored there, and the digits of its tenth are left, if any.
pub spelt_first :
    (digits : List ℕ) (most i rest : ℕ)
    → most ≡ suc i
    → i < length digits
    → rest < 10
    → drop i (set digits i (digit rest)) ≡ spelt most rest ++ drop most digits
unfolding spelt
spelt_first digits most i rest more inside small = rw (more, lt-ltb rest 10 small) (drop_store digits i (digit rest) inside)

pub spelt_more :
    (digits : List ℕ) (most i rest : ℕ)
    → most ≡ suc i
    → i < length digits
    → 10 ≤ rest
    → spelt i (rest / 10) ++ drop i (set digits i (digit rest)) ≡ spelt most rest ++ drop most digits
unfolding spelt
spelt_more digits most i rest more inside large =
    rw
    (more, le-ltb rest 10 large)
    (ap (λ (from : List ℕ). spelt i (rest / 10) ++ from) (drop_store digits i (digit rest) inside)
    ∙ sym (append_snoc (spelt i (rest / 10)) (digit rest) (drop (suc i) digits)))

-- Nothing is left before the first place.
pub spelt_all : (digits : List ℕ) (rest : ℕ) → spelt 0 rest ++ drop 0 digits ≡ digits
unfolding spelt
spelt_all digits rest = refl

-- And nothing stands behind the last one at first.
pub spelt_none : (digits : List ℕ) (n : ℕ) → length digits ≡ 20 → decimal n ++ drop 20 digits ≡ decimal n
spelt_none digits n twenty =
    ap (λ (rest : List ℕ). decimal n ++ rest) (drop_of_length-le digits {i = 20} (omega arith)) ∙ append-nil (decimal n)

-- Below a power of ten, a tenth is below the power before it.
pub tenth_lt : (most n : ℕ) → n < 10 ^ suc most → n / 10 < 10 ^ most
tenth_lt most n small = (div-lt_iff_lt-mul {k = 10} {x = n} {y = 10 ^ most} (omega arith)).1 (rw pow-suc at small)

-- A number has at most as many digits as are asked for.
spelt_short : (most n : ℕ) → length (spelt most n) ≤ most
unfolding spelt
spelt_short zero n = omega arith
spelt_short (suc most) n =
    split
    (ltb n 10)
    (λ small. rw small (omega arith))
    (λ large. rw (large, length-append (spelt most (n / 10)) (digit n ∷ [])) (omega (arith, spelt_short most (n / 10))))

pub decimal_short : (n : ℕ) → length (decimal n) ≤ 20
decimal_short n = spelt_short 20 n

-- Room for more digits than a number has adds none.
leading_same : (most tenth : ℕ) → tenth < 10 ^ most → leading (suc most) tenth ≡ leading most tenth
leading_same zero tenth small =
    let none : tenth ≡ 0 = omega (arith, rw pow-zero at small) in
    leading_none 1 tenth none ∙ sym (leading_none 0 tenth none)
leading_same (suc most) tenth small =
    split
    (eqb tenth 0)
    (λ none. leading_none (suc (suc most)) tenth (eqb-true tenth 0 none) ∙ sym (leading_none (suc most) tenth (eqb-true tenth 0 none)))
    (λ some. let positive : 0 < tenth = omega (arith, eqb-false tenth 0 some) in
    leading_some (suc (suc most)) tenth positive
    ∙ spelt_last (suc most) tenth
    ∙ ap (λ (front : List ℕ). front ++ (digit tenth ∷ [])) (leading_same most (tenth / 10) (tenth_lt most tenth small))
    ∙ sym (leading_some (suc most) tenth positive ∙ spelt_last most tenth))

-- A number below ten is spelt by its last digit, any other one by its tenth and then the last digit.
pub decimal_small : (n : ℕ) → n < 10 → decimal n ≡ digit n ∷ []
decimal_small n small = spelt_last 19 n ∙ ap (λ (front : List ℕ). front ++ (digit n ∷ [])) (leading_none 19 (n / 10) (omega arith))

pub decimal_more : (n : ℕ) → 10 ≤ n → n < 10 ^ 20 → decimal n ≡ decimal (n / 10) ++ (digit n ∷ [])
decimal_more n large fits =
    spelt_last 19 n
    ∙ ap
    (λ (front : List ℕ). front ++ (digit n ∷ []))
    (sym (leading_same 19 (n / 10) (tenth_lt 19 n fits)) ∙ leading_some 20 (n / 10) (omega arith))

-- How many digits a number has: one below ten, any other one more than its tenth.
pub length_small : (n : ℕ) → n < 10 → length (decimal n) ≡ 1
length_small n small = ap length (decimal_small n small)

pub length_more : (n count : ℕ) → 10 ≤ n → n < 10 ^ 20 → length (decimal (n / 10)) ≡ count → length (decimal n) ≡ count + 1
length_more n count large fits tenth =
    ap length (decimal_more n large fits) ∙ length-append (decimal (n / 10)) (digit n ∷ []) ∙ ap (λ (k : ℕ). k + 1) tenth

pub length_more_2 : (n count : ℕ) → 100 ≤ n → n < 10 ^ 20 → length (decimal (n / 10 / 10)) ≡ count → length (decimal n) ≡ count + 2
length_more_2 n count large fits hundredth =
    length_more n (count + 1) (omega arith) fits (length_more (n / 10) count (omega arith) (omega arith) hundredth) ∙ omega arith

read_last : (number : ℕ) (front : List ℕ) (d : ℕ) → read_behind number (front ++ (d ∷ [])) ≡ 10 * read_behind number front + (d - 48)
unfolding read_behind
read_last number [] d = refl
read_last number (e ∷ front) d = read_last (10 * number + (e - 48)) front d

-- The last digit, and the number that those before it are read as, make the number.
last_digit_lem : (n tenth : ℕ) → tenth ≡ n / 10 → 10 * tenth + (digit n - 48) ≡ n
last_digit_lem n tenth e = omega arith

read_leading : (most tenth : ℕ) → tenth < 10 ^ most → read_back (leading most tenth) ≡ tenth
unfolding read_behind
read_leading zero tenth small =
    let none : tenth ≡ 0 = omega (arith, rw pow-zero at small) in
    ap read_back (leading_none 0 tenth none) ∙ sym none
read_leading (suc most) tenth small =
    split
    (eqb tenth 0)
    (λ none. ap read_back (leading_none (suc most) tenth (eqb-true tenth 0 none)) ∙ sym (eqb-true tenth 0 none))
    (λ some. ap read_back (leading_some (suc most) tenth (omega (arith, eqb-false tenth 0 some)) ∙ spelt_last most tenth)
    ∙ read_last 0 (leading most (tenth / 10)) (digit tenth)
    ∙ last_digit_lem tenth (read_back (leading most (tenth / 10))) (read_leading most (tenth / 10) (tenth_lt most tenth small)))

-- The digits of a number, read back, are the number.
pub decimal_is : (n : ℕ) → n < 10 ^ 20 → read_back (decimal n) ≡ n
decimal_is n fits =
    ap read_back (spelt_last 19 n)
    ∙ read_last 0 (leading 19 (n / 10)) (digit n)
    ∙ last_digit_lem n (read_back (leading 19 (n / 10))) (read_leading 19 (n / 10) (tenth_lt 19 n fits))
