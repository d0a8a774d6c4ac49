-- A float that its format holds is a whole number of the format's smallest value, and `times2^` is that number: nothing is cut off.
use mathlib.Core.Path.{◌≡◌, sym, ap, ◌∙◌, subst}
use Prim.Native.Nat.{ℕ, zero, suc, ◌+◌, ◌-◌, ◌*◌, ◌%◌, ◌^◌, ◌≤◌, ◌<◌}
use native.Mathlib.Nat.{le_trans, le_of_eq, le_of_suc-le-suc, mul_comm, mul_assoc, mul-one, one-mul, zero-mul, mul-pos, le-mul_of_pos_right, eq_of_mul-eq-mul_right, not-le_of_lt, lt_of_not-le}
use native.Mathlib.Omega.{arith}
use mathlib.Core.Bool.{Bool, ◌&&◌}
use lib.IntN.{ℤ, pos, negsuc}
use lib.Dec.{T, leb, ltb, eqb, leb→le, ltb→lt, eqb→eq}
use lib.Pow.{pow-add, pow_pos, pow-lt}
use lib.Ieee.{Float, nan, inf, fin, Format, prec, emax, low, up, down, fits}
use lib.Ieee.Fits.{and_l, and_r, up_pos, down_pos}
use lib.Ieee.Exact.{HasValue}
use Rattle.octets.specs.Numbers.{whole_of}
use Rattle.theorems_bound.specs.Bound.{raised, times2^}

-- A float that fits lies on the format's grid, and below its end.
pub record Held (f : Format) (m : ℕ) (e : ℤ) : Type 0 where
  pub on_grid : down e ≤ 2 ^ low f
  pub below_end : m * up e < 2 ^ suc (emax f) * down e

pub held : (f : Format) (s : Bool) (m : ℕ) (e : ℤ) → T (fits f (fin s m e)) → Held f m e
unfolding fits
held f s zero e t =
    record {
      on_grid = le_trans (one_at_most (up e) (down e) (up_pos e) (eqb→eq (up e * down e) 1 t)) (pow_pos (low f));
      below_end = subst (λ (x : ℕ). x < 2 ^ suc (emax f) * down e) (sym (zero-mul (up e))) (mul-pos (pow_pos (suc (emax f))) (down_pos e));
    }
  where
    one_at_most : (u d : ℕ) → 0 < u → u * d ≡ 1 → d ≤ 1
    one_at_most u d positive h = le_trans (le-mul_of_pos_right d positive) (le_of_eq (mul_comm d u ∙ h))
held f s (suc m) e t =
    let short : Bool = eqb (suc m % 2) 1 && ltb (suc m) (2 ^ prec f) in
    let grid : Bool = leb (down e) (2 ^ low f) in
    let end : Bool = ltb (suc m * up e) (2 ^ suc (emax f) * down e) in
    record {
      on_grid = leb→le (down e) (2 ^ low f) (and_r short grid (and_l (short && grid) end t));
      below_end = ltb→lt (suc m * up e) (2 ^ suc (emax f) * down e) (and_r (short && grid) end t);
    }

-- 2^l times 2^e is 2 ^ raised l e, where e is -l at least.
pub raised_is : (l : ℕ) (e : ℤ) → down e ≤ 2 ^ l → up e * 2 ^ l ≡ 2 ^ raised l e * down e
raised_is l (pos k) h = mul_comm (2 ^ k) (2 ^ l) ∙ sym (pow-add 2 l k) ∙ sym (mul-one (2 ^ (l + k)))
raised_is l (negsuc k) h = one-mul (2 ^ l) ∙ sym (ap (λ (x : ℕ). 2 ^ x) (back k l (exponents (suc k) l h))) ∙ pow-add 2 (l - suc k) (suc k)
  where
    exponents : (i j : ℕ) → 2 ^ i ≤ 2 ^ j → i ≤ j
    exponents i j h = le_of_suc-le-suc (lt_of_not-le (λ (over : j < i). not-le_of_lt (pow-lt over) h))

    back : (k l : ℕ) → suc k ≤ l → l - suc k + suc k ≡ l
    back k l h = omega arith

-- The same of m x 2^e.
pub whole_from : (l m : ℕ) (e : ℤ) → down e ≤ 2 ^ l → m * up e * 2 ^ l ≡ m * 2 ^ raised l e * down e
whole_from l m e h = mul_assoc m (up e) (2 ^ l) ∙ ap (λ (x : ℕ). m * x) (raised_is l e h) ∙ sym (mul_assoc m (2 ^ raised l e) (down e))

-- A float of the format f that is a / 2 ^ low f in size is the whole number a.
pub times_is : (f : Format) (v : Float) (s : Bool) (a : ℕ) → T (fits f v) → HasValue v s a (2 ^ low f) → times2^ (low f) v ≡ whole_of s a
times_is f nan s a t v = absurd v
times_is f (inf u) s a t v = absurd v
times_is f (fin u m e) s a t v =
    let same : m * 2 ^ raised (low f) e ≡ a = eq_of_mul-eq-mul_right (down e) (down_pos e) (m * 2 ^ raised (low f) e) a (sym (whole_from (low f) m e (held f u m e t).on_grid) ∙ v.1) in
    λ i. whole_of (v.0 i) (same i)
