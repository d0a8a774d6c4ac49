-- The whole number nearest to a fraction, halves up: there is one alone, and the quotient that the code takes is it.
use mathlib.Core.Path.{◌≡◌, refl, sym, subst}
use Prim.Native.Nat.{ℕ, ◌+◌, ◌-◌, ◌*◌, ◌^◌, ◌≤◌, ◌<◌}
use native.Mathlib.Nat.{mul-le-mul, mul-le-mul_right, mul_left_comm, mul_comm, mul-zero, div-le_self, div-mul-le_self, lt-div-mul-add, le_antisymm}
use native.Mathlib.Omega.{arith}
use borrow.Author.Tests.{ltb-true, ltb-false, leb-true, leb-false}
use lib.Dec.{ltb, leb}
use Rattle.octets.proofs.Cases.{split}
use Rattle.section_3_positions.specs.Positions.{gap, Nearest, Away}
use Rattle.section_3_positions.specs.Quotients.{rounded, away_of}

-- The fraction a / b lies from n - 1/2, this included, to n + 1/2, this not included: all of it is taken 2 b times.
pub record Between (a b n : ℕ) : Type 0 where
  pub low : 2 * (n * b) ≤ 2 * a + b
  pub high : 2 * a < 2 * (n * b) + b

-- A multiple that lies below lies b lower at least.
below : {m n : ℕ} (b : ℕ) → m < n → m * b + b ≤ n * b
below {m} {n} b less = omega (arith, mul-le-mul_right {m = m + 1} {n = n} b (omega (arith, less)))

-- Then n is nearest: by where another number lies.
module _ {a b n : ℕ} (k : Between a b n) where
  nearer : (m : ℕ) → gap a (n * b) ≤ gap a (m * b)
  nearer m =
      split (ltb m n)
      (λ less. omega (arith, k.low, k.high, below b (ltb-true m n less)))
      (λ not-less.
      split (ltb n m)
      (λ more. omega (arith, k.low, k.high, below b (ltb-true n m more)))
      (λ not_more. let same : m ≡ n = le_antisymm (ltb-false n m not_more) (ltb-false m n not-less) in rw same (omega arith)))

  larger : (m : ℕ) → gap a (m * b) ≡ gap a (n * b) → m ≤ n
  larger m same = split (ltb n m) (λ more. absurd (omega (arith, k.low, k.high, same, below b (ltb-true n m more)))) (λ not_more. ltb-false n m not_more)

  pub between_nearest : Nearest a b n
  between_nearest = record { near = nearer; up = larger }

-- The quotient lies so.
pub rounded_between : (a b : ℕ) → 1 ≤ b → Between a b (rounded a b)
rounded_between a b some =
    let q = rounded a b in
    let twice : q * (2 * b) ≡ 2 * (q * b) = mul_left_comm q 2 b in
    record {
      low = omega (arith, twice, div-mul-le_self (2 * a + b) (2 * b));
      high = omega (arith, twice, lt-div-mul-add {a = 2 * a + b} {b = 2 * b} (omega (arith, some)));
    }

-- There is one nearest number alone, so that it lies so.
pub nearest_once : {a b m n : ℕ} → Nearest a b m → Nearest a b n → m ≡ n
nearest_once {a} {b} {m} {n} k l =
    let same : gap a (m * b) ≡ gap a (n * b) = le_antisymm (k.near n) (l.near m) in
    le_antisymm (l.up m same) (k.up n (sym same))

pub nearest_between : {a b n : ℕ} → 1 ≤ b → Nearest a b n → Between a b n
nearest_between {a} {b} {n} some k =
    subst (λ (q : ℕ). Between a b q) (nearest_once (between_nearest (rounded_between a b some)) k) (rounded_between a b some)

-- The distance of point i: the quotient is it, and nothing else is.
module _ {count span i : ℕ} where
  pub quotient_away : 1 < count → Away count span i (rounded (i * span) (count - 1))
  quotient_away many =
      record { single = λ one. absurd (omega (arith, one, many)); spread = λ _. between_nearest (rounded_between (i * span) (count - 1) (omega (arith, many))) }

  pub single_away : count ≤ 1 → Away count span i 0
  single_away few = record { single = λ _. refl; spread = λ many. absurd (omega (arith, few, many)) }

  pub away_of_lem : Away count span i (away_of count span i)
  away_of_lem = split (leb count 1) (λ few. rw few (single_away (leb-true count 1 few))) (λ many. rw many (quotient_away (leb-false count 1 many)))

  pub away_once : {m n : ℕ} → 1 ≤ count → Away count span i m → Away count span i n → m ≡ n
  away_once some k l =
      split (leb count 1)
      (λ few. let one : count ≡ 1 = le_antisymm (leb-true count 1 few) some in omega (arith, k.single one, l.single one))
      (λ many. nearest_once (k.spread (leb-false count 1 many)) (l.spread (leb-false count 1 many)))

-- What the code reckons with leaves room in 64 bits.
pub product_small : {i span : ℕ} → i < 2 ^ 32 → span < 2 ^ 29 → i * span ≤ 2 ^ 61
product_small {i} {span} few short =
    let most : i * span ≤ 4294967296 * 536870912 = mul-le-mul {n₂ = 4294967296} {m₂ = 536870912} (omega (arith, few)) (omega (arith, short)) in
    omega (arith, most)

pub away_small : {count span i n : ℕ} → 1 ≤ count → count < 2 ^ 32 → span < 2 ^ 29 → i < 2 ^ 32 → Away count span i n → n ≤ 2 ^ 63
away_small {count} {span} {i} some counted short few k =
    rw (away_once some k away_of_lem)
    (split (leb count 1)
    (λ one. rw one (omega arith))
    (λ many. rw many (omega (arith, div-le_self (2 * (i * span) + (count - 1)) (2 * (count - 1)), product_small few short, counted))))

-- Where points lie along a span: the first is no distance away and the last the whole span, none is farther away than one that comes later, and each distance is
-- within a half of the exact one.
module _ {count span : ℕ} (some : 1 ≤ count) (flat : count ≡ 1 → span ≡ 0) where
  away_first : Away count span 0 0
  away_first =
      record { single = λ _. refl; spread = λ many. between_nearest (record { low = omega arith; high = omega (arith, many) }) }

  away_last : Away count span (count - 1) span
  away_last =
      let turned : span * (count - 1) ≡ (count - 1) * span = mul_comm span (count - 1) in
      record { single = flat; spread = λ many. between_nearest (record { low = omega (arith, turned); high = omega (arith, turned, many) }) }

  pub first_away : {i n : ℕ} → i ≡ 0 → Away count span i n → n ≡ 0
  first_away {i} {n} first k = away_once some (subst (λ (j : ℕ). Away count span j n) first k) away_first

  pub last_away : {i n : ℕ} → i ≡ count - 1 → Away count span i n → n ≡ span
  last_away {i} {n} last k = away_once some (subst (λ (j : ℕ). Away count span j n) last k) away_last

  pub away_orders : {i j m n : ℕ} → i ≤ j → Away count span i m → Away count span j n → m ≤ n
  away_orders {i} {j} {m} {n} before k l =
      split (leb count 1)
      (λ few. let one : count ≡ 1 = le_antisymm (leb-true count 1 few) some in omega (arith, k.single one))
      (λ several.
      let many = leb-false count 1 several in
      let steps : 1 ≤ count - 1 = omega (arith, many) in
      let early = nearest_between steps (k.spread many) in
      let late = nearest_between steps (l.spread many) in
      split (ltb n m)
      (λ back. absurd (omega (arith, early.low, late.high, mul-le-mul_right {m = i} {n = j} span before, below (count - 1) (ltb-true n m back))))
      (λ on. ltb-false n m on))

  pub away_inside : {i n : ℕ} → i < count → Away count span i n → n ≤ span
  away_inside {i} inside k = away_orders {j = count - 1} (omega (arith, inside)) k away_last

  pub away_near : {i n : ℕ} → Away count span i n → 2 * gap (i * span) (n * (count - 1)) ≤ count - 1
  away_near {i} {n} k =
      split (leb count 1)
      (λ few.
      let one : count ≡ 1 = le_antisymm (leb-true count 1 few) some in
      let none : i * span ≡ 0 = rw (flat one) (mul-zero i) in
      rw (none, k.single one) (omega arith))
      (λ several.
      let many = leb-false count 1 several in
      let lies = nearest_between (omega (arith, many)) (k.spread many) in
      omega (arith, lies.low, lies.high))
