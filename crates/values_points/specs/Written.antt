-- RULES, "From X to a double": what is written to the points of a field: each gets its double and whether it is present. Integers go to the points that
-- are present, in order.
use Rattle.std.specs.Prelude.{ℕ, ◌+◌, ◌-◌, ◌*◌, ◌/◌, ◌%◌, ◌^◌, ◌≤◌, ◌<◌, ◌≡◌, Bool, true, false, ◌&&◌, cond, eqb, leb, ltb, List, [], ◌∷◌, pos, length, get_or, Float}
use Rattle.std.specs.Float.{fin}
use Rattle.std.specs.Borrow.{MutBor}
use denote.Triple.Both.{Both}
use Rattle.laws_rows.specs.Rows.{row, filled}
use Rattle.bits.specs.Bits.{bit_at, bits_at}
use Rattle.bits_ones.specs.Ones.{ones_before}
use Rattle.doubles.specs.declared.Packing.{Packing}
use Rattle.values_points.specs.Points.{double_at}

-- Which points are present: `mark i` is 1 where point i is and 0 where it is missing, and `rank i` is how many before it are present.
pub record Marks : Type 0 where
  pub mark : ℕ → ℕ
  pub rank : ℕ → ℕ

-- Every point is present.
abbrev pub every_point : Marks
every_point = record { mark = λ _. 1; rank = λ i. i }

-- The points are present that have a 1 in a bitmap.
abbrev pub ones_of : List ℕ → Marks
ones_of bitmap = record { mark = bit_at bitmap; rank = ones_before bitmap }

-- Which points a field has, by its bitmap: all of them where that is empty.
abbrev pub marks_in : List ℕ → Marks
marks_in [] = every_point
marks_in (octet ∷ rest) = ones_of (octet ∷ rest)

-- The two runs that are lent for the points of a field: their doubles, and whether each is present.
pub record Runs : Type 0 where
  pub doubles : List Float
  pub marks : List ℕ

abbrev pub runs : List Float → List ℕ → Runs
runs doubles marks = record { doubles = doubles; marks = marks }

-- The two runs of a contract as they were lent, and as they are left.
module _ (values : Both (MutBor (List Float)) (MutBor (List Float))) (presence : Both (MutBor (List ℕ)) (MutBor (List ℕ))) where
  abbrev pub lent : Runs
  lent = runs values.entry.now presence.entry.now

  abbrev pub left : Runs
  left = runs values.exit.now presence.exit.now

-- A bitmap has a bit for each of the first n points, or is empty.
abbrev pub Covers : List ℕ → ℕ → Type 0
Covers bitmap n = 1 ≤ length bitmap → n ≤ 8 * length bitmap

-- Both runs have one length, of at most 16,777,216 elements, and the bitmap covers them.
abbrev pub Room : List ℕ → List Float → List ℕ → Type 0
Room bitmap values presence = (length presence ≡ length values) × (length values ≤ 16777216) × Covers bitmap (length values)

-- Of the n points of a field, at least `count` that are present are left from one on.
abbrev pub PointsLeft : List ℕ → (point count n : ℕ) → Type 0
PointsLeft bitmap point count n = (point ≤ n) × ((marks_in bitmap).rank point + count ≤ (marks_in bitmap).rank n)

-- The points from `point` up to `next` are written, and no other: `count` integers went to those of them that are present. Missing points behind
-- the last integer may be among them.
pub record WrittenPast (m : Marks) (p : Packing) (x : ℕ → ℕ) (count point next : ℕ) (before after : Runs) : Type 0 where
  pub onward : point ≤ next
  pub within : next ≤ length before.doubles
  pub used : m.rank next ≡ m.rank point + count
  pub doubles : after.doubles ≡ filled (double_at p x m.mark (λ i. m.rank i - m.rank point)) point (next - point) before.doubles
  pub marks : after.marks ≡ filled m.mark point (next - point) before.marks

-- They are so written, and the last of them has the last integer: no shorter stretch would do.
pub record Written (m : Marks) (p : Packing) (x : ℕ → ℕ) (count point next : ℕ) (before after : Runs) : Type 0 where
  pub past : WrittenPast m p x count point next before after
  pub least : (i : ℕ) → point ≤ i → i < next → m.rank i < m.rank point + count

-- The points from `point` up to `next` are missing, and so written.
pub record Missing (m : Marks) (point next : ℕ) (before after : Runs) : Type 0 where
  pub onward : point ≤ next
  pub within : next ≤ length before.doubles
  pub missing : (i : ℕ) → point ≤ i → i < next → m.mark i ≡ 0
  pub doubles : after.doubles ≡ filled (λ _. fin false 0 (pos 0)) point (next - point) before.doubles
  pub marks : after.marks ≡ filled (λ _. 0) point (next - point) before.marks

-- They are missing, and the next one is present, if it is not the end.
pub record Cleared (m : Marks) (point next : ℕ) (before after : Runs) : Type 0 where
  pub past : Missing m point next before after
  pub present : next < length before.doubles → m.mark next ≡ 1

-- Both runs are written from their first element to their last: the integer numbered m is `x m`.
abbrev pub Filled : Marks → Packing → (ℕ → ℕ) → Runs → Runs → Type 0
Filled m p x before after =
    (after.doubles ≡ row (double_at p x m.mark m.rank) (length before.doubles)) × (after.marks ≡ row m.mark (length before.doubles))

-- A block has at most 56 integers, and at most those that are left.
abbrev pub block_length : ℕ → ℕ
block_length left = cond (ltb left 56) left 56

-- The integers of a block, as elements of 31 bits.
abbrev pub integers_in : List ℕ → ℕ → ℕ
integers_in block k = get_or block k 0 % 2147483648

-- The n points from `point` on are present, as one window of the bitmap tells, or as it is empty. Near the bitmap's end there is no window, and none is told of.
abbrev pub are_present : List ℕ → ℕ → ℕ → Bool
are_present bitmap point n = cond (eqb (length bitmap) 0) true (leb (point / 8 + 8) (length bitmap) && eqb (bits_at bitmap point n) (2 ^ n - 1))
