-- Demand 3 of one double: every one that is rebuilt within the limits is finite, is near to the exact fraction, and is the one that two roundings give;
-- the whole numbers that say so lose nothing; and the bound 2^51 cannot be made 2^53.
use mathlib.Core.Path.{◌≡◌, sym, subst}
use Prim.Native.Nat.{ℕ, zero, suc, ◌*◌, ◌^◌, ◌≤◌, zero-le}
use native.Mathlib.Nat.{not-le_of_lt}
use mathlib.Core.Bool.{Bool, true, false, ◌&&◌, cond}
use lib.IntN.{ℤ}
use lib.Dec.{T, leb, leb→le, lit≤, lit<}
use lib.Ieee.{Float, fin, binary32, binary64, up, down, add, mul, div, of_int, fits, of_bits}
use lib.Ieee.Fits.{and_l, and_r, mul-fits, div-fits}
use lib.Ieee.Scale.{finite}
use Rattle.octets.proofs.Cases.{apart}
use Rattle.octets.specs.declared.Signed.{Signed}
use Rattle.octets.specs.Numbers.{whole, whole_of}
use Rattle.doubles.specs.Doubles.{power_of_two, power_of_ten, scaled_by, sum_of, value_of, is_in_range, is_rebuildable, not_rebuildable, rebuild_one}
use Rattle.theorems_bound.specs.Bound.{raised, exact_s, written_v, Near, Meets, InLimits}
use Rattle.theorems_bound.proofs.Whole.{held, raised_is, whole_from}
use Rattle.theorems_bound.proofs.Sum.{power_on_grid, sum_is_nearest, exact_is_small}
use Rattle.theorems_bound.proofs.Roundings.{roundings_meet}
use Rattle.std.specs.Prelude.{Ok, Err}

-- Demand 3 of one double, for all R, E, D and X within the limits.
pub rebuilt_meets : (r : ℕ) (e d : Signed) (x : ℕ) → InLimits r e d x → Meets d.negative d.size (exact_s r e x) (value_of r e d x)
unfolding value_of
rebuilt_meets r e d x limits =
    subst (λ (v : Float). Meets d.negative d.size (exact_s r e x) (scaled_by d.negative (power_of_ten d.size) v)) (sym (sum_is_nearest r e d x limits))
    (roundings_meet d.negative d.size (exact_s r e x) limits.scaled.d22 (exact_is_small r e d x limits))

-- The question that rebuilds one double answers with a double only within the limits, so demand 3 holds of every double that it gives.
pub answered_in_limits : (r : ℕ) (e d x : Signed) → T (is_rebuildable r e d x) → InLimits r e d x.size
answered_in_limits r e d x t =
    let single : Bool = finite (of_bits binary32 r) in
    let scale : Bool = leb e.size 127 in
    let ten : Bool = leb d.size 22 in
    let packed : Bool = is_in_range (whole x) in
    let three : T (single && scale && ten) = and_l (single && scale && ten) packed t in
    let two : T (single && scale) = and_l (single && scale) ten three in
    record {
      scaled =
          record { finite_r = and_l single scale two; e127 = leb→le e.size 127 (and_r single scale two); d22 = leb→le d.size 22 (and_r (single && scale) ten three) };
      packed = size_packed x.negative x.size (and_r (single && scale && ten) packed t);
    }
  where
    size_packed : (negative : Bool) (size : ℕ) → T (is_in_range (whole_of negative size)) → size ≤ 2147483647
    size_packed false size t = leb→le size 2147483647 t
    size_packed true zero t = zero-le
    size_packed true (suc size) t = absurd t

pub answered_meets : (r : ℕ) (e d x : Signed) (v : Float) → rebuild_one r e d x ≡ Ok v → (v ≡ value_of r e d x.size) × Meets d.negative d.size (exact_s r e x.size) (value_of r e d x.size)
answered_meets r e d x v answer = go (is_rebuildable r e d x) (answered_in_limits r e d x) answer
  where
    go : (b : Bool) → (T b → InLimits r e d x.size) → cond b (Ok (value_of r e d x.size)) (Err not_rebuildable) ≡ Ok v → (v ≡ value_of r e d x.size) × Meets d.negative d.size (exact_s r e x.size) (value_of r e d x.size)
    go true limits given = (cc, rebuilt_meets r e d x.size (limits tt))
    go false limits given = apart cc

-- A single m x 2^e is m x 2 ^ raised 149 e over 2^149, and 2^E is 2 ^ raised 149 E over 2^149, so that S is exactly 2^149 (R + X x 2^E).
pub whole_single : (s : Bool) (m : ℕ) (e : ℤ) → T (fits binary32 (fin s m e)) → m * up e * 2 ^ 149 ≡ m * 2 ^ raised 149 e * down e
whole_single s m e t = whole_from 149 m e (held binary32 s m e t).on_grid

pub whole_power : (e : Signed) → e.size ≤ 127 → up (whole e) * 2 ^ 149 ≡ 2 ^ raised 149 (whole e) * down (whole e)
whole_power e h = raised_is 149 (whole e) (power_on_grid e.negative e.size h)

-- Every rebuilt double fits its format, and is m x 2 ^ raised 1074 e over 2^1074, so that V is exactly 2^1074 times it.
pub value_fits : (r : ℕ) (e d : Signed) (x : ℕ) → T (fits binary64 (value_of r e d x))
unfolding value_of scaled_by
value_fits r e d x = go d.negative (power_of_ten d.size) (sum_of (of_bits binary32 r) (power_of_two (whole e)) x)
  where
    go : (below : Bool) (t v : Float) → T (fits binary64 (scaled_by below t v))
    go false t v = div-fits binary64 v t
    go true t v = mul-fits binary64 v t

pub whole_double : (s : Bool) (m : ℕ) (e : ℤ) → T (fits binary64 (fin s m e)) → m * up e * 2 ^ 1074 ≡ m * 2 ^ raised 1074 e * down e
whole_double s m e t = whole_from 1074 m e (held binary64 s m e t).on_grid

-- With R = 2^-51, E = 0, D = 1 and X = 7 the double is 0.7, and both roundings err downwards: the bound 2^53 does not hold.
pub in_limits : InLimits 0x2600_0000 (record { negative = false; size = 0 }) (record { negative = false; size = 1 }) 7
unfolding of_bits
in_limits = record { scaled = record { finite_r = tt; e127 = lit≤ tt; d22 = lit≤ tt }; packed = lit≤ tt }

pub not_53 :
    let r : ℕ = 0x2600_0000 in
    let e : Signed = record { negative = false; size = 0 } in
    let d : Signed = record { negative = false; size = 1 } in
    Near 53 false 1 (written_v (value_of r e d 7)) (exact_s r e 7) → ⊥
unfolding value_of add mul div of_int of_bits
not_53 near = not-le_of_lt (lit< tt) near
