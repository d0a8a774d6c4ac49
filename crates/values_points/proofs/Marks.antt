-- Which points a bitmap has: all where it is empty, and else those whose bit is 1. Each of them counts in the rank of those behind it.
use mathlib.Core.Path.{◌≡◌, refl, sym, ap, ◌∙◌}
use mathlib.Core.List.{List, [], ◌∷◌}
use Prim.Native.Nat.{ℕ, zero, suc, ◌+◌, ◌≤◌, ◌<◌}
use native.Mathlib.Numerals.{add-one}
use native.Mathlib.Omega.{arith}
use lib.ListN.{length}
use Rattle.bits.proofs.Laws.{bit_lt}
use Rattle.bits_ones.specs.Ones.{ones_before}
use Rattle.bits_ones.proofs.Laws.{ones_more}
use Rattle.section_6.specs.declared.Presence as declared
use Rattle.section_6.specs.declared.Presence.TheVariants as Presence
use Rattle.section_6.specs.Presence.{present_at, present_before, bitmap_in_force, BitmapLies}
use Rattle.section_6.proofs.Laws.{bitmap_length_lem}
use Rattle.values_points.specs.Written.{Marks, every_point, ones_of, marks_in, Covers}

-- A point that is present is one more before the next, and a mark is 0 or 1.
pub record Ranked (m : Marks) : Type 0 where
  pub none : m.rank 0 ≡ 0
  pub more : (i : ℕ) → m.rank (i + 1) ≡ m.rank i + m.mark i
  pub few : (i : ℕ) → m.mark i < 2

pub ranked : (bitmap : List ℕ) → Ranked (marks_in bitmap)
unfolding ones_before
ranked [] = record { none = refl; more = λ i. refl; few = λ i. omega arith }
ranked (octet ∷ rest) = record { none = refl; more = ones_more (octet ∷ rest); few = bit_lt (octet ∷ rest) }

-- An empty bitmap, and one that is not.
pub marks_empty : (bitmap : List ℕ) → length bitmap ≡ 0 → marks_in bitmap ≡ every_point
marks_empty [] none = refl
marks_empty (octet ∷ rest) none = absurd (omega arith)

pub marks_bits : (bitmap : List ℕ) → 1 ≤ length bitmap → marks_in bitmap ≡ ones_of bitmap
marks_bits [] some = absurd (omega arith)
marks_bits (octet ∷ rest) some = refl

-- No more points are present than there are.
pub rank_most : {m : Marks} → Ranked m → (i : ℕ) → m.rank i ≤ i
rank_most r zero = omega (arith, r.none)
rank_most {m} r (suc i) = omega (arith, rank_most r i, r.more i, r.few i, ap m.rank (add-one i))

module _ (file : List ℕ) (p : declared.Presence) (points : ℕ) (lies : BitmapLies file p points) where
  abbrev bitmap : List ℕ
  bitmap = bitmap_in_force file p points

  -- The bitmap of a field covers its points.
  pub field_covers : Covers bitmap points
  field_covers = by p lies
    where
      by : (q : declared.Presence) → BitmapLies file q points → Covers (bitmap_in_force file q points) points
      by Presence.All h some = absurd (omega arith)
      by (Presence.Own s) h some = omega (arith, bitmap_length_lem file s.0 points h.0 h.1)
      by (Presence.Earlier s) h some = omega (arith, bitmap_length_lem file s.0 points h.0 h.1)

  -- Its marks tell of each point whether it is present, and its ranks how many before it are.
  pub field_marks_lem : (i : ℕ) → i < points → present_at file p points i ≡ (marks_in bitmap).mark i
  field_marks_lem i inside = by p lies
    where
      by : (q : declared.Presence) → BitmapLies file q points → present_at file q points i ≡ (marks_in (bitmap_in_force file q points)).mark i
      by Presence.All h = refl
      by (Presence.Own s) h = sym (ap (λ (m : Marks). m.mark i) (marks_bits _ (omega (arith, bitmap_length_lem file s.0 points h.0 h.1))))
      by (Presence.Earlier s) h = sym (ap (λ (m : Marks). m.mark i) (marks_bits _ (omega (arith, bitmap_length_lem file s.0 points h.0 h.1))))

  pub field_ranks : (i : ℕ) → i ≤ points → present_before file p points i ≡ (marks_in bitmap).rank i
  unfolding present_before
  field_ranks zero inside = sym (ranked bitmap).none
  field_ranks (suc i) inside =
      let more = (ranked bitmap).more i in
      let next : present_before file p points i + present_at file p points i ≡ (marks_in bitmap).rank (i + 1) = omega (arith, field_ranks i (omega arith), field_marks_lem i (omega arith), more) in
      next ∙ ap (marks_in bitmap).rank (add-one i)
