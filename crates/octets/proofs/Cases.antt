-- Cases by a test, for the proofs of every layer.
use mathlib.Core.Path.{◌≡◌, refl}
use mathlib.Core.Bool.{Bool, true, false, ◌&&◌, cond}
use Prim.Native.Nat.{ℕ}
use native.Mathlib.Omega.{arith}

-- Two cases that differ are never equal: an equation of them leads to this one, and whatever is to be shown follows.
pub apart : {A : Type 0} → ◌≡◌ {A = ℕ} 0 1 → A
apart e = absurd (omega arith)

-- A test is true or false, and each case has the equation in hand.
pub split {ℓ} : {A : Type ℓ} (test : Bool) → (test ≡ true → A) → (test ≡ false → A) → A
split true holds fails = holds refl
split false holds fails = fails refl

-- What holds of two answers holds of the one that a test chooses.
pub chosen : {A : Type 0} (P : A → Type 0) (test : Bool) (a b : A) → P a → P b → P (cond test a b)
chosen P true a b p q = p
chosen P false a b p q = q

-- Each of two tests holds where both are taken together.
pub both : (a b : Bool) → (a && b) ≡ true → (a ≡ true) × (b ≡ true)
both true b e = (refl, e)
both false b e = apart cc
