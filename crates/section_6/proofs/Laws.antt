-- What section 6 tells: where it is taken, the points that it marks are as many as there are values.
use mathlib.Core.Path.{◌≡◌, refl, sym, ◌∙◌, subst}
use mathlib.Core.Bool.{Bool, true, false, cond}
use mathlib.Core.List.{List}
use Prim.Native.Nat.{ℕ, zero, suc, ◌≤◌}
use native.Mathlib.Omega.{arith}
use lib.Dec.{eqb, ltb}
use lib.ListN.{length, length-take, length-drop}
use borrow.Author.Tests.{eqb-true}
use Rattle.octets.specs.declared.FilePlace.{FilePlace}
use Rattle.octets.specs.Places.{at}
use Rattle.octets.proofs.Cases.{apart, split}
use Rattle.section.specs.Sections.{Lies, octet, length_at}
use Rattle.bits.specs.Bits.{octets_of}
use Rattle.bits_ones.specs.Ones.{ones_before}
use Rattle.bits_ones.proofs.Laws.{ones_most}
use Rattle.section_6.specs.declared.Presence as declared
use Rattle.section_6.specs.declared.Presence.{Presence}
use Rattle.section_6.specs.Presence.{bitmap_length, bitmap_in, is_bitmap, own_at, earlier_at, all_of, presence_at, present_before}
use Rattle.std.specs.Prelude.{Option, Some, None}

-- The section 6 at p has a bitmap for so many points, of which n are present.
pub record Fitting (file : List ℕ) (p points n : ℕ) : Type 0 where
  pub length : length_at file p ≡ bitmap_length points
  pub ones : ones_before (bitmap_in file p points) points ≡ n

module _ (file : List ℕ) (p points n : ℕ) where
  -- What a bitmap tells.
  pub is_bitmap_tells : is_bitmap file p points n ≡ true → Fitting file p points n
  is_bitmap_tells e = grind arith

-- A bitmap has a bit for each point.
pub bitmap_length_lem : (file : List ℕ) (p points : ℕ) → Lies file p → length_at file p ≡ bitmap_length points → length (bitmap_in file p points) ≡ octets_of points
bitmap_length_lem file p points lies same = simp (length-take, length-drop) (omega arith)

-- What is known where section 6 is taken: of each case, whose bitmap it is, and that it marks n points.
abbrev pub Told : List ℕ → ℕ → Option FilePlace → ℕ → ℕ → declared.Presence → Type 0
Told file s bitmap points n Presence.All = points ≡ n
Told file s bitmap points n (Presence.Own q) = (q ≡ at s) × Fitting file q.0 points n
Told file s bitmap points n (Presence.Earlier q) = (bitmap ≡ Some q) × Fitting file q.0 points n

-- Where a test is passed, it holds, and the answer stands behind it.
passed : (test : Bool) {answer : Option Presence} {p : declared.Presence} → cond test answer None ≡ Some p → (test ≡ true) × (answer ≡ Some p)
passed true e = (refl, e)
passed false e = apart cc

module _ (file : List ℕ) (s points n : ℕ) {p : declared.Presence} where
  own_told : (bitmap : Option FilePlace) → own_at file s points n ≡ Some p → Told file s bitmap points n p
  own_told bitmap e =
      let own = passed (is_bitmap file s points n) e in
      let same : Presence.Own (at s) ≡ p = cc own.1 in
      subst (Told file s bitmap points n) same (refl, is_bitmap_tells file s points n own.0)

  earlier_told : (bitmap : Option FilePlace) → earlier_at file bitmap points n ≡ Some p → Told file s bitmap points n p
  earlier_told None e = apart cc
  earlier_told (Some q) e =
      let earlier = passed (is_bitmap file q.0 points n) e in
      let same : Presence.Earlier q ≡ p = cc earlier.1 in
      subst (Told file s (Some q) points n) same (refl, is_bitmap_tells file q.0 points n earlier.0)

  all_told : (bitmap : Option FilePlace) → all_of points n ≡ Some p → Told file s bitmap points n p
  all_told bitmap e =
      let all = passed (eqb points n) e in
      let same : Presence.All ≡ p = cc all.1 in
      subst (Told file s bitmap points n) same (eqb-true points n all.0)

-- The points present, counted one by one, are the bits of the bitmap that are set, or all points.
pub present_all_lem : (file : List ℕ) (points n : ℕ) → present_before file Presence.All points n ≡ n
unfolding present_before
present_all_lem file points zero = refl
present_all_lem file points (suc n) = rw (present_all_lem file points n) (omega arith)

pub present_own : (file : List ℕ) (q : FilePlace) (points n : ℕ) → present_before file (Presence.Own q) points n ≡ ones_before (bitmap_in file q.0 points) n
unfolding present_before ones_before
present_own file q points zero = refl
present_own file q points (suc n) = rw (present_own file q points n)

pub present_earlier : (file : List ℕ) (q : FilePlace) (points n : ℕ) → present_before file (Presence.Earlier q) points n ≡ ones_before (bitmap_in file q.0 points) n
unfolding present_before ones_before
present_earlier file q points zero = refl
present_earlier file q points (suc n) = rw (present_earlier file q points n)

module _ (file : List ℕ) (s : ℕ) (bitmap : Option FilePlace) (points n : ℕ) where
  -- Where section 6 is taken, all that it tells holds.
  pub marked : {p : declared.Presence} → presence_at file s bitmap points n ≡ Some p → Told file s bitmap points n p
  unfolding presence_at
  marked {p} e =
      split (ltb (length_at file s) 6) (λ i. apart (cc (rw i at e)))
      (λ i.
      split (eqb (octet file s 6) 0) (λ j. own_told file s points n bitmap (rw (i, j) at e))
      (λ j.
      let six = passed (eqb (length_at file s) 6) (rw (i, j) at e) in
      split (eqb (octet file s 6) 254) (λ k. earlier_told file s points n bitmap (rw k at six.1))
      (λ k. all_told file s points n bitmap (passed (eqb (octet file s 6) 255) (rw k at six.1)).1)))

  told_present : (p : declared.Presence) → Told file s bitmap points n p → n ≡ present_before file p points points
  told_present Presence.All told = sym (present_all_lem file points points ∙ told)
  told_present (Presence.Own q) told = sym (present_own file q points points ∙ told.1.ones)
  told_present (Presence.Earlier q) told = sym (present_earlier file q points points ∙ told.1.ones)

  told_most : (p : declared.Presence) → Told file s bitmap points n p → n ≤ points
  told_most Presence.All told = omega arith
  told_most (Presence.Own q) told = omega (arith, told.1.ones, ones_most (bitmap_in file q.0 points) points)
  told_most (Presence.Earlier q) told = omega (arith, told.1.ones, ones_most (bitmap_in file q.0 points) points)

  -- N equals the points present.
  pub marked_present : {p : declared.Presence} → presence_at file s bitmap points n ≡ Some p → n ≡ present_before file p points points
  marked_present {p} e = told_present p (marked e)

  -- N is at most the number of points.
  pub marked_most : {p : declared.Presence} → presence_at file s bitmap points n ≡ Some p → n ≤ points
  marked_most {p} e = told_most p (marked e)

  -- The bitmap is the section's own, or the one in force, and has a bit for each point.
  pub marked_own : {q : FilePlace} → presence_at file s bitmap points n ≡ Some (Presence.Own q) → (q ≡ at s) × (length_at file q.0 ≡ bitmap_length points)
  marked_own e = let told = marked e in (told.0, told.1.length)

  pub marked_earlier : {q : FilePlace} → presence_at file s bitmap points n ≡ Some (Presence.Earlier q) → (bitmap ≡ Some q) × (length_at file q.0 ≡ bitmap_length points)
  marked_earlier e = let told = marked e in (told.0, told.1.length)
