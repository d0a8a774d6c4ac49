-- The theorem `sections_laid`: where the walk over a message's sections finds a field, each of its sections lies in the file.
use Prim.Native.Nat.{ℕ, zero, suc, ◌+◌, ◌-◌, ◌≤◌, ◌<◌}
use mathlib.Core.Path.{◌≡◌, refl, subst}
use mathlib.Core.List.{List, [], ◌∷◌, ◌++◌}
use mathlib.Core.Bool.{Bool, true, false, cond, ◌&&◌}
use native.Mathlib.Nat.{le_of_suc-le-suc, not-suc-le-zero}
use native.Mathlib.Omega.{arith}
use borrow.Author.Tests.{ne_eqb, eqb-true, eqb-false}
use lib.Dec.{leb, eqb}
use lib.ListN.{length, get_or}
use Rattle.std.specs.Prelude.{Option, Some, None}
use Rattle.octets.specs.declared.FilePlace.{FilePlace}
use Rattle.octets.specs.Places.{at, place_of}
use Rattle.octets.specs.Numbers.{octet_at}
use Rattle.octets.proofs.Cases.{apart, split}
use Rattle.section.specs.Sections.{length_at, kind_at, Lies}
use Rattle.laws_machine.specs.Machine.{go, stop}
use Rattle.laws_machine.proofs.Laws.{run_gives}
use Rattle.tiling_sections.specs.declared.Starts.{Starts}
use Rattle.tiling_sections.specs.declared.Located.{Located}
use Rattle.tiling_sections.specs.Walk.{section_start, starts_by, starts_after, bitmap_after, nowhere, Walking, InMessage, passed, failed, finished_by, section_step, entering, sections}
use Rattle.tiling_sections.specs.Stands.{next}
use Rattle.tiling_sections.specs.Laid.{Stored, Laid}
use Rattle.tiling_sections.proofs.Laws as Laws
use Rattle.tiling_sections.proofs.Laws.{Walks, on, end, bad, walks, falls, Follows, follows_so}

-- A property that each field of a list has.
pub data Every (P : Located → Type 0) : List Located → Type 0 where
  none : Every P []
  and : {l : Located} {ls : List Located} → P l → Every P ls → Every P (l ∷ ls)

module _ {P : Located → Type 0} where
  pub join : {ls ms : List Located} → Every P ls → Every P ms → Every P (ls ++ ms)
  join none e = e
  join (and p d) e = and p (join d e)

  grown : (test : Bool) {ls : List Located} {l : Located} → Every P ls → (test ≡ true → P l) → Every P (cond test (ls ++ (l ∷ [])) ls)
  grown true d p = join d (and (p refl) none)
  grown false d p = d

  pub at_each : {ls : List Located} (k : ℕ) → k < length ls → Every P ls → P (get_or ls k nowhere)
  at_each k h none = absurd (not-suc-le-zero h)
  at_each zero h (and p d) = p
  at_each (suc k) h (and p d) = at_each k (le_of_suc-le-suc h) d

-- The sections whose starts a walk notes.
data Noted : ℕ → Type 0 where
  one : Noted 1
  three : Noted 3
  four : Noted 4
  five : Noted 5
  six : Noted 6
  seven : Noted 7

noted : {n : ℕ} → Noted n → (1 ≤ n) × (n ≡ 2 → ⊥)
noted one = (omega arith, λ e. omega arith)
noted three = (omega arith, λ e. omega arith)
noted four = (omega arith, λ e. omega arith)
noted five = (omega arith, λ e. omega arith)
noted six = (omega arith, λ e. omega arith)
noted seven = (omega arith, λ e. omega arith)

start_by : (place : ℕ → ℕ) {n : ℕ} → Noted n → section_start (starts_by place) n ≡ place n
start_by place one = refl
start_by place three = refl
start_by place four = refl
start_by place five = refl
start_by place six = refl
start_by place seven = refl

-- A section comes before another only where it is not behind the one before that.
before : {after n m : ℕ} → Follows after n → Noted m → m < n → m ≤ after
before Laws.first m h = omega (arith, noted m)
before Laws.grid m h = omega (arith, (noted m).0, (noted m).1)
before Laws.field m h = omega arith
before Laws.fifth m h = omega arith
before Laws.sixth m h = omega arith
before Laws.seventh m h = omega arith
before Laws.next_grid m h = omega arith
before Laws.next_field m h = omega arith

none_is_0 : {after n : ℕ} → Follows after n → n ≡ 0 → ⊥
none_is_0 Laws.first e = omega arith
none_is_0 Laws.grid e = omega arith
none_is_0 Laws.field e = omega arith
none_is_0 Laws.fifth e = omega arith
none_is_0 Laws.sixth e = omega arith
none_is_0 Laws.seventh e = omega arith
none_is_0 Laws.next_grid e = omega arith
none_is_0 Laws.next_field e = omega arith

-- The bitmap in force behind a section is the one before it, its own, or none.
stored_after : {file : List ℕ} {p : ℕ} (bitmap : Option FilePlace) → Lies file p → Stored file bitmap → (third sixth own : Bool) →
    Stored file (cond third None (cond sixth (cond own (Some (at p)) bitmap) bitmap))
stored_after bitmap lies kept true sixth own q e = apart cc
stored_after {file} {p} bitmap lies kept false true true q e = let same : p ≡ q.0 = cc in subst (Lies file) same lies
stored_after bitmap lies kept false true false q e = kept q e
stored_after bitmap lies kept false false own q e = kept q e

module _ (file : List ℕ) (p e : ℕ) (room : e + 4 ≤ length file) where
  -- What the walk keeps: the sections that it has noted lie in the file, and so do those of the fields that are finished.
  record Kept (w : Walking) : Type 0 where
    inside : w.place ≤ e
    opened : w.starts.zero.0 + 16 ≤ length file
    lies : {n : ℕ} → Noted n → n ≤ w.after → Lies file (section_start w.starts n)
    stored : Stored file w.bitmap
    fields : Every (Laid file) w.fields

  kept_on : (w : Walking) {t : Walking} → Kept w → Walks file e w (go t) → Kept t
  unfolding starts_after bitmap_after
  kept_on w k (on (next f allowed)) =
      record {
        inside = f.room;
        opened = opened;
        lies = lies;
        stored = stored;
        fields = grown (eqb n 7) k.fields laid;
      }
    where
      n : ℕ
      n = kind_at file w.place

      q : ℕ
      q = w.place + length_at file w.place

      after : Starts
      after = (finished_by file w n q).starts

      own : Lies file w.place
      own = record { least = f.least; room = omega (arith, f.room) }

      opened : after.zero.0 + 16 ≤ length file
      opened = rw (ne_eqb n 0 (none_is_0 (follows_so w.after n allowed))) k.opened

      lies : {m : ℕ} → Noted m → m ≤ n → Lies file (section_start after m)
      lies {m} s h =
          rw (start_by (λ i. cond (eqb n i) w.place (section_start w.starts i)) s)
          (split (eqb n m) (λ i. rw i own) (λ i. rw i (k.lies s (before (follows_so w.after n allowed) s (omega (arith, eqb-false n m i))))))

      stored : Stored file (finished_by file w n q).bitmap
      stored = stored_after w.bitmap own k.stored (eqb n 3) (eqb n 6) (leb 6 (q - w.place) && eqb (octet_at file (place_of w.place 6)) 0)

      laid : eqb n 7 ≡ true → Laid file (finished_by file w n q)
      laid i =
          let up : 7 ≤ n = omega (arith, eqb-true n 7 i) in
          record {
            zero = opened;
            one = lies one (omega arith);
            three = lies three (omega arith);
            four = lies four (omega arith);
            five = lies five (omega arith);
            six = lies six (omega arith);
            seven = lies seven (omega arith);
            stored = stored;
          }

  abbrev pub FieldsLaid : InMessage → Type 0
  FieldsLaid (passed q fields) = Every (Laid file) fields
  FieldsLaid (failed r) = Unit {0}

  kept_stop : (w : Walking) {a : InMessage} → Kept w → Walks file e w (stop a) → FieldsLaid a
  kept_stop w k (end _) = k.fields
  kept_stop w k (bad _) = tt

  pub sections_laid : p + 16 ≤ e → FieldsLaid (sections file p e)
  unfolding starts_after
  sections_laid h =
      run_gives (section_step file e) (passed (e + 4) []) (λ (v : Walking). e - v.place) (falls file e) Kept FieldsLaid
      (λ w t k i. kept_on w k (subst (Walks file e w) i (walks file e w)))
      (λ w a k i. kept_stop w k (subst (Walks file e w) i (walks file e w)))
      (entering p)
      (record { inside = h; opened = omega (arith, h, room); lies = λ s i. absurd (omega (arith, (noted s).0)); stored = λ q i. apart cc; fields = none })
