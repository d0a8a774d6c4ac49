-- RULES, "Refusals by number": the number that each refusal has, what C is given for it, and the order in which refusals are tried.
use Rattle.std.specs.Prelude.{ℕ, suc, ◌+◌, ◌*◌, ◌^◌, List, [], ◌∷◌, cond, ◌&&◌, eqb, leb}
use Rattle.octets.specs.Places.{at}
use Rattle.refusals.specs.declared.Why.{Why}
use Rattle.refusals.specs.declared.Refusal.{Refusal}

-- A refusal at a place.
abbrev pub refusal : Why → ℕ → Refusal
refusal why p = record { why = why; place = at p }

-- The number of each refusal in the table.
abbrev pub number_of : Why → ℕ
number_of Why.TooLong = 1
number_of Why.Empty = 2
number_of Why.Cut = 3
number_of Why.NotGrib2 = 4
number_of Why.BadLength = 5
number_of Why.OutOfPlace = 6
number_of Why.NoEnd = 7
number_of Why.NoSuchField = 8
number_of Why.BadIdentification = 9
number_of Why.BadGrid = 10
number_of Why.BadProduct = 11
number_of Why.BadRepresentation = 12
number_of Why.BadBitmap = 13
number_of Why.BadPacking = 14
number_of Why.NoRoom = 15
number_of Why.ValueOutOfRange = 16
number_of Why.NoSuchPoint = 17
number_of Why.InputTooLong = 18
number_of Why.NotRebuildable = 19
number_of Why.OtherGrid = 20

-- What C is given for a refusal: 2^63 + number x 2^32 + place.
abbrev pub code_of : Refusal → ℕ
code_of r = 2 ^ 63 + number_of r.why * 2 ^ 32 + r.place.0

-- The order in which refusals are tried, first to last, by their numbers: it is an order of its own, and not that of the numbers. A program's input is
-- judged before all else; then the file's length and its tiling; then the field, its sections in force, and what is asked of the field.
abbrev pub order : List ℕ
order = 18 ∷ 1 ∷ 2 ∷ 3 ∷ 8 ∷ 9 ∷ 10 ∷ 11 ∷ 12 ∷ 13 ∷ 14 ∷ 20 ∷ 17 ∷ 15 ∷ 16 ∷ 19 ∷ []

-- The faults of the tiling, 3 to 7, have one step in it, for which 3 stands: among them the file's own order decides.
abbrev pub step_of : ℕ → ℕ
step_of number = cond (leb 3 number && leb number 7) 3 number

-- How many steps come before one.
unfoldable pub steps_before : List ℕ → ℕ → ℕ
steps_before [] step = 0
steps_before (first ∷ later) step = cond (eqb first step) 0 (suc (steps_before later step))

-- Where the refusal of this number stands in the order.
abbrev pub rank : ℕ → ℕ
rank number = steps_before order (step_of number)
