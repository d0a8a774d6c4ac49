-- The laws of numbers in octets, each once, over the count of octets.
use mathlib.Core.Path.{◌≡◌, refl, ◌∙◌}
use Prim.Native.Nat.{ℕ, zero, suc, ◌+◌, ◌*◌, ◌%◌, ◌^◌, ◌≤◌, ◌<◌}
use native.Mathlib.Nat.{le_of_lt, pow-suc, pow-le-pow_right, mod-eq_of_lt, add-mod_left}
use native.Mathlib.Numerals.{add-one}
use native.Mathlib.Omega.{arith}
use mathlib.Core.Bool.{false, not}
use mathlib.Core.List.{List}
use borrow.Author.Tests.{le-ltb, lt-ltb}
use lib.Arith.{digits_lt}
use lib.Dec.{eqb, ltb, eqb-suc-zero, lit<}
use Rattle.octets.specs.Numbers.{octet_at, number_at, top_bit, signed_of}

pub number_none : (xs : List ℕ) (p : ℕ) → number_at xs p 0 ≡ 0
unfolding number_at
number_none xs p = refl

-- One octet more.
pub number_more : (xs : List ℕ) (p n : ℕ) → number_at xs p (n + 1) ≡ number_at xs p n * 256 + octet_at xs (p + n)
unfolding number_at
number_more xs p n = rw add-one

pub more_fits : (n : ℕ) {v b : ℕ} → v < 256 ^ n → b < 256 → v * 256 + b < 256 ^ (n + 1)
more_fits n h k = rw (add-one, pow-suc) (digits_lt h k)

-- A number of n octets is below 256 ^ n.
pub number_fits : (xs : List ℕ) (p n : ℕ) → ((i : ℕ) → octet_at xs i < 256) → number_at xs p n < 256 ^ n
unfolding number_at
number_fits xs p zero octets = omega arith
number_fits xs p (suc n) octets = rw pow-suc (digits_lt (number_fits xs p n octets) (octets (p + n)))

-- A number of at most eight octets fits 64 bits.
pub fits_eight : (n : ℕ) → n ≤ 8 → 256 ^ n ≤ 2 ^ 64
fits_eight n h = pow-le-pow_right {n = 256} (lit< tt) h

-- With the sign clear a number is its size.
pub sign_clear : (n v : ℕ) → v < top_bit n → signed_of n v ≡ record { negative = false; size = v }
sign_clear n v h = rw (le-ltb _ _ (le_of_lt h), mod-eq_of_lt h)

-- With the sign set it is minus its size, and 0 where that is 0.
pub sign_set : (n v : ℕ) → v < top_bit n → signed_of n (top_bit n + v) ≡ record { negative = not (eqb v 0); size = v }
sign_set n v h =
    let digits : (top_bit n + v) % top_bit n ≡ v = add-mod_left (top_bit n) v ∙ mod-eq_of_lt h in
    rw (digits, past (top_bit n) v)
  where
    past : (t v : ℕ) → ltb t (t + v) ≡ not (eqb v 0)
    past t zero = le-ltb t (t + 0) (omega arith)
    past t (suc v) = rw (eqb-suc-zero v) (lt-ltb t (t + suc v) (omega arith))
