-- The laws of refusals: no two share a number, the numbers are small, and in which order refusals are tried.
use mathlib.Core.Path.{◌≡◌, refl, sym, ap, ◌∙◌}
use mathlib.Core.List.{List, [], ◌∷◌}
use Prim.Native.Nat.{ℕ, ◌-◌, ◌≤◌, ◌<◌}
use native.Mathlib.Omega.{arith}
use lib.Dec.{lit<}
use lib.ListN.{get_or}
use Rattle.refusals.specs.declared.Why.{Why}
use Rattle.refusals.specs.Refusals.{number_of, order, steps_before}

-- The numbers are small: they leave room for the place below them and for the top bit above them.
pub numbered : (why : Why) → (1 ≤ number_of why) × (number_of why ≤ 255)
numbered Why.TooLong = (omega arith, omega arith)
numbered Why.Empty = (omega arith, omega arith)
numbered Why.Cut = (omega arith, omega arith)
numbered Why.NotGrib2 = (omega arith, omega arith)
numbered Why.BadLength = (omega arith, omega arith)
numbered Why.OutOfPlace = (omega arith, omega arith)
numbered Why.NoEnd = (omega arith, omega arith)
numbered Why.NoSuchField = (omega arith, omega arith)
numbered Why.BadIdentification = (omega arith, omega arith)
numbered Why.BadGrid = (omega arith, omega arith)
numbered Why.BadProduct = (omega arith, omega arith)
numbered Why.BadRepresentation = (omega arith, omega arith)
numbered Why.BadBitmap = (omega arith, omega arith)
numbered Why.BadPacking = (omega arith, omega arith)
numbered Why.NoRoom = (omega arith, omega arith)
numbered Why.ValueOutOfRange = (omega arith, omega arith)
numbered Why.NoSuchPoint = (omega arith, omega arith)
numbered Why.InputTooLong = (omega arith, omega arith)
numbered Why.NotRebuildable = (omega arith, omega arith)
numbered Why.OtherGrid = (omega arith, omega arith)

-- The refusals in the order of their numbers.
abbrev table : List Why
table = Why.TooLong ∷ Why.Empty ∷ Why.Cut ∷ Why.NotGrib2 ∷ Why.BadLength ∷ Why.OutOfPlace ∷ Why.NoEnd ∷ Why.NoSuchField ∷ Why.BadIdentification ∷ Why.BadGrid ∷ Why.BadProduct ∷ Why.BadRepresentation ∷ Why.BadBitmap ∷ Why.BadPacking ∷ Why.NoRoom ∷ Why.ValueOutOfRange ∷ Why.NoSuchPoint ∷ Why.InputTooLong ∷ Why.NotRebuildable ∷ Why.OtherGrid ∷ []

named : (why : Why) → get_or table (number_of why - 1) Why.TooLong ≡ why
named Why.TooLong = refl
named Why.Empty = refl
named Why.Cut = refl
named Why.NotGrib2 = refl
named Why.BadLength = refl
named Why.OutOfPlace = refl
named Why.NoEnd = refl
named Why.NoSuchField = refl
named Why.BadIdentification = refl
named Why.BadGrid = refl
named Why.BadProduct = refl
named Why.BadRepresentation = refl
named Why.BadBitmap = refl
named Why.BadPacking = refl
named Why.NoRoom = refl
named Why.ValueOutOfRange = refl
named Why.NoSuchPoint = refl
named Why.InputTooLong = refl
named Why.NotRebuildable = refl
named Why.OtherGrid = refl

-- Two refusals with one number are the same refusal.
pub same_number : (a b : Why) → number_of a ≡ number_of b → a ≡ b
same_number a b e = sym (named a) ∙ ap (λ (n : ℕ). get_or table (n - 1) Why.TooLong) e ∙ named b

-- The order of refusals, step by step: whoever compares two of them adds up these steps.
pub record InOrder : Type 0 where
  pub tiling : (steps_before order 1 < steps_before order 2) × (steps_before order 2 < steps_before order 3)
  pub field : (steps_before order 3 < steps_before order 8) × (steps_before order 8 < steps_before order 9)
  pub sections : (steps_before order 9 < steps_before order 10) × (steps_before order 10 < steps_before order 11) × (steps_before order 11 < steps_before order 12)
  pub packing : (steps_before order 12 < steps_before order 13) × (steps_before order 13 < steps_before order 14)
  pub asked : (steps_before order 14 < steps_before order 20) × (steps_before order 20 < steps_before order 17) × (steps_before order 17 < steps_before order 15) × (steps_before order 15 < steps_before order 16)

pub in_order : InOrder
unfolding steps_before
in_order =
    record {
      tiling = (lit< tt, lit< tt);
      field = (lit< tt, lit< tt);
      sections = (lit< tt, lit< tt, lit< tt);
      packing = (lit< tt, lit< tt);
      asked = (lit< tt, lit< tt, lit< tt, lit< tt);
    }
