-- What the proofs of tiling's functions go by: how the answers of a function follow from those of the functions that it calls, and what the loop
-- of `tiling::tile` keeps. The code has only the count of the fields and the place of one of them; the list of all is the proof's.
use Prim.Native.Nat.{ℕ, ◌+◌, ◌-◌, ◌≤◌, ◌<◌}
use mathlib.Core.Path.{◌≡◌, refl, ap, ap₂, sym, subst, ◌∙◌}
use mathlib.Core.List.{List, ◌++◌}
use mathlib.Core.Bool.{cond}
use native.Mathlib.Omega.{arith}
use borrow.Author.Tests.{ltb-true, ltb-false}
use lib.Dec.{ltb}
use lib.ListN.{length, get_or, length-append, get_or-append}
use lib.Seq.{get_or-append-add}
use Rattle.std.specs.Prelude.{Result, Ok, Err}
use Rattle.octets.specs.declared.FilePlace.{FilePlace}
use Rattle.octets.proofs.Cases.{apart, split}
use Rattle.octets.specs.Places.{at}
use Rattle.refusals.specs.declared.Refusal.{Refusal}
use Rattle.refusals.specs.declared.Why.{Why}
use Rattle.refusals.specs.Refusals.{refusal}
use Rattle.tiling_sections.specs.declared.Located.{Located}
use Rattle.tiling_sections.specs.declared.Walked.{Walked}
use Rattle.tiling_sections.specs.Walk.{InMessage, passed, failed, nowhere, sections, walked_of, told}
use Rattle.tiling.specs.Tiling.{header_at, message, read_from, tiles, found_in, tiled_of}
use Rattle.tiling.proofs.Laws.{Bounded, message_bad, message_walked, message_bounded, read_on, read_bad, read_end}

-- What is told of a message, by its header.
module _ (file : List ℕ) (p k : ℕ) where
  pub told_sections : {e : FilePlace} {w : Result Walked Refusal} → header_at file p ≡ Ok e → w ≡ told k (sections file p e.0) → w ≡ told k (message file p)
  told_sections {e} h i = i ∙ ap (told k) (sym (message_walked file p e h))

  pub told_bad : {why : Why} → header_at file p ≡ Err why → told k (message file p) ≡ Err (refusal why p)
  told_bad {why} h = ap (told k) (message_bad file p why h)

-- What is told of the message at p is so of its fields. It ends past its start and within the file, and has no more fields than octets.
pub record Taken (file : List ℕ) (p k count q : ℕ) (hit : Located) : Type 0 where
  pub least : p + 20 ≤ q
  pub inside : q ≤ length file
  pub few : count + p ≤ q
  pub fields : List Located
  pub whole : message file p ≡ passed q fields
  pub counts : length fields ≡ count
  pub found : get_or fields k nowhere ≡ hit

pub message_taken : (file : List ℕ) (p k : ℕ) {w : Walked} → p ≤ length file → told k (message file p) ≡ Ok w → Taken file p k w.count w.next.0 w.hit
message_taken file p k {w} inside = by (message file p) refl (message_bounded file p inside)
  where
    by : (m : InMessage) → message file p ≡ m → Bounded file p m → told k m ≡ Ok w → Taken file p k w.count w.next.0 w.hit
    by (passed q fields) whole bounded h =
        let same : walked_of (length fields) (at q) (get_or fields k nowhere) ≡ w = cc in
        subst (λ (v : Walked). Taken file p k v.count v.next.0 v.hit) same
        (record { least = omega arith; inside = omega arith; few = omega arith; fields = fields; whole = whole; counts = refl; found = refl })
    by (failed r) whole bounded h = apart cc

told_failed : (k : ℕ) (m : InMessage) {r : Refusal} → told k m ≡ Err r → m ≡ failed r
told_failed k (passed q fields) {r} h = apart cc
told_failed k (failed f) h = cc

-- Field k of two lists joined, of which the first has n fields.
found_joined : (fields more : List Located) (k n : ℕ) → length fields ≡ n → get_or (fields ++ more) k nowhere ≡ cond (ltb k n) (get_or fields k nowhere) (get_or more (k - n) nowhere)
found_joined fields more k n i =
    split (ltb k n) (λ h. rw h (get_or-append fields more nowhere k (omega (arith, ltb-true k n h))))
    (λ h.
    let past : length fields + (k - n) ≡ k = omega (arith, ltb-false k n h) in
    rw h (subst (λ (x : ℕ). get_or (fields ++ more) x nowhere ≡ get_or more (k - n) nowhere) past (get_or-append-add fields more (k - n) nowhere)))

-- The reading of the file, in search of field k, has come to p with m messages and n fields behind it: the reading from the start finds what the
-- reading from here finds.
pub record Come (file : List ℕ) (k p m n : ℕ) (hit : Located) : Type 0 where
  pub inside : p ≤ length file
  pub few_messages : m ≤ p
  pub few_fields : n ≤ p
  pub fields : List Located
  pub counts : length fields ≡ n
  pub found : get_or fields k nowhere ≡ hit
  pub same : tiles file ≡ read_from file (record { place = p; messages = m; fields = fields })

module _ {file : List ℕ} {k p m n : ℕ} {hit : Located} (r : Come file k p m n hit) where
  pub come_on : {count q : ℕ} {last : Located} → p < length file → Taken file p (k - n) count q last → Come file k q (m + 1) (n + count) (cond (ltb k n) hit last)
  come_on {count} {q} {last} h taken =
      record {
        inside = taken.inside;
        few_messages = omega arith;
        few_fields = omega arith;
        fields = r.fields ++ taken.fields;
        counts = simp length-append (omega arith);
        found = found_joined r.fields taken.fields k n r.counts ∙ ap₂ (cond (ltb k n)) r.found taken.found;
        same = r.same ∙ read_on file _ q taken.fields h taken.whole;
      }

  pub come_bad : (j : ℕ) {f : Refusal} → p < length file → told j (message file p) ≡ Err f → found_in k (tiles file) ≡ Err f
  come_bad j {f} h s = ap (found_in k) (r.same ∙ read_bad file _ f h (told_failed j (message file p) s))

  pub come_end : length file ≤ p → found_in k (tiles file) ≡ Ok (tiled_of m n hit)
  come_end h = ap (found_in k) (r.same ∙ read_end file _ h) ∙ ap₂ (λ (n : ℕ) (hit : Located). Ok (tiled_of m n hit)) r.counts r.found
