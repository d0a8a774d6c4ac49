-- When R is finite, by its exponent's field; and that a finite single is a double too.
use mathlib.Core.Path.{◌≡◌, refl, sym, ◌∙◌, subst}
use Prim.Native.Nat.{ℕ, zero, suc, ◌+◌, ◌/◌, ◌%◌, ◌^◌}
use mathlib.Core.Bool.{Bool, true, false, not, ◌&&◌, cond}
use lib.Dec.{T, leb, eqb}
use lib.Ieee.{Float, nan, inf, fin, binary32, binary64, odd, of_fields, of_bits, nan_bits, is_nan, fits}
use lib.Ieee.Fits.{and_i, fits_widens}
use lib.Ieee.Bits.{nan_bits_is, of_bits-fits}
use lib.Ieee.Scale.{finite}

odd_finite : (d : ℕ) (s : Bool) (q k l : ℕ) → finite (odd d s q k l) ≡ true
unfolding odd
odd_finite d s zero k l = refl
odd_finite d s (suc q) k l = refl

fields_finite : (s : Bool) (x t : ℕ) → finite (of_fields binary32 s x t) ≡ not (eqb x 255)
unfolding of_fields
fields_finite s zero t = odd_finite 24 s t 0 149
fields_finite s (suc x) t = go (eqb (suc x) 255) (eqb t 0)
  where
    go : (b c : Bool) → finite (cond b (cond c (inf s) nan) (odd 24 s (2 ^ 23 + t) x 149)) ≡ not b
    go true true = refl
    go true false = refl
    go false c = odd_finite 24 s (2 ^ 23 + t) x 149

-- A single is finite where its exponent's field is not all ones.
pub finite_by_field : (r : ℕ) → finite (of_bits binary32 r) ≡ not (eqb (r % 2 ^ 31 / 2 ^ 23) 255)
unfolding of_bits
finite_by_field r = fields_finite (leb (2 ^ 31) r) (r % 2 ^ 31 / 2 ^ 23) (r % 2 ^ 23)

pub finite_number : (v : Float) → T (finite v) → is_nan v ≡ false
unfolding is_nan
finite_number nan t = absurd t
finite_number (inf s) t = absurd t
finite_number (fin s m e) t = refl

pub finite_pattern : (r : ℕ) → T (finite (of_bits binary32 r)) → T (not (nan_bits binary32 r))
finite_pattern r t = subst (λ (b : Bool). T (not b)) (sym (nan_bits_is binary32 r ∙ finite_number (of_bits binary32 r) t)) tt

pub finite_widens : (r : ℕ) → T (finite (of_bits binary32 r)) → T (fits binary64 (of_bits binary32 r) && not (is_nan (of_bits binary32 r)))
finite_widens r t =
    and_i (fits binary64 (of_bits binary32 r)) (not (is_nan (of_bits binary32 r))) (fits_widens (of_bits binary32 r) (of_bits-fits binary32 r))
    (subst (λ (b : Bool). T (not b)) (sym (finite_number (of_bits binary32 r) t)) tt)
