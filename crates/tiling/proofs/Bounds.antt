-- What is known of the answers of check and find. No file that is taken has more messages than octets, or more fields than one for every 20; a refusal
-- names a place within such a file; and where find says that a field lies, its sections lie in the file.
use Prim.Native.Nat.{ℕ, ◌*◌, ◌≤◌, ◌<◌}
use mathlib.Core.Path.{◌≡◌, refl, ap, sym, subst}
use mathlib.Core.List.{List}
use native.Mathlib.Nat.{le_of_lt}
use native.Mathlib.Omega.{arith}
use lib.ListN.{length, get_or, length-append}
use Rattle.std.specs.Prelude.{Result, Ok, Err}
use Rattle.octets.proofs.Cases.{apart}
use Rattle.refusals.specs.declared.Refusal.{Refusal}
use Rattle.laws_machine.specs.Machine.{go, stop, Trace, halts, steps}
use Rattle.tiling_sections.specs.declared.Located.{Located}
use Rattle.tiling_sections.specs.Walk.{passed, nowhere}
use Rattle.tiling_sections.specs.Laid.{Laid}
use Rattle.tiling_sections.proofs.Laid.{Every, none, join, at_each}
use Rattle.tiling.specs.declared.Counts.{Counts}
use Rattle.tiling.specs.declared.Tiled.{Tiled}
use Rattle.tiling.specs.Tiling.{largest, SoFar, InFile, tiled, refused, file_step, tiling_of, found_in, find, both_counts, checked, check}
use Rattle.tiling.specs.Lying.{Lying}
use Rattle.tiling.proofs.Laws.{Bounded, message_bounded, MessageLaid, message_laid, Reads, on, end, reads, Whole, read, whole, check_placed}

-- No number in the answer is above the length of the largest file that is taken.
abbrev pub Small : Result Counts Refusal → Type 0
Small (Ok both) = (both.messages ≤ largest) × (both.fields ≤ largest)
Small (Err r) = r.place.0 ≤ largest

module _ (file : List ℕ) where
  -- A reading has no more messages behind it than octets, at most one field for every 20, and the sections of each field lie in the file.
  record Kept (r : SoFar) : Type 0 where
    inside : r.place ≤ length file
    few_messages : r.messages ≤ r.place
    few_fields : 20 * length r.fields ≤ r.place
    laid : Every (Laid file) r.fields

  -- What is known of a file that is tiled.
  pub record Sound (m : ℕ) (fields : List Located) : Type 0 where
    pub few_messages : m ≤ length file
    pub few_fields : 20 * length fields ≤ length file
    pub laid : Every (Laid file) fields

  kept_end : {m : ℕ} {fields : List Located} {r : SoFar} → Kept r → Reads file r (stop (tiled m fields)) → Sound m fields
  kept_end k (end h) = record { few_messages = omega (arith, k.inside, k.few_messages); few_fields = omega (arith, k.inside, k.few_fields); laid = k.laid }

  kept_on : {r t : SoFar} → Kept r → Reads file r (go t) → Kept t
  kept_on {r} k (on {q} {fields} h m) =
      let bounded : Bounded file r.place (passed q fields) = subst (Bounded file r.place) m (message_bounded file r.place (le_of_lt h)) in
      record {
        inside = bounded.1;
        few_messages = omega (arith, k.few_messages);
        few_fields = simp length-append (omega (arith, k.few_fields));
        laid = join k.laid (subst (MessageLaid file) m (message_laid file r.place));
      }

  trace_sound : {r : SoFar} {m : ℕ} {fields : List Located} → Kept r → Trace (file_step file) r (tiled m fields) → Sound m fields
  trace_sound {r} k (halts h) = kept_end k (subst (Reads file r) h (reads file r))
  trace_sound {r} k (steps h t) = trace_sound (kept_on k (subst (Reads file r) h (reads file r))) t

  whole_sound : {m : ℕ} {fields : List Located} → Whole file (tiled m fields) → (length file ≤ largest) × Sound m fields
  whole_sound (read some most t) = (most, trace_sound (record { inside = omega arith; few_messages = omega arith; few_fields = omega arith; laid = none }) t)

  pub tiled_sound : {m : ℕ} {fields : List Located} → tiling_of file ≡ tiled m fields → (length file ≤ largest) × Sound m fields
  tiled_sound h = whole_sound (subst (Whole file) h (whole file))

  pub check_bounded : Small (check file)
  check_bounded = by (tiling_of file) refl
    where
      by : (o : InFile) → tiling_of file ≡ o → Small (checked o)
      by (tiled m fields) h = let sound = tiled_sound h in omega (arith, sound.0, sound.1.few_messages, sound.1.few_fields)
      by (refused r) h = (check_placed file (ap checked h)).1

  -- A file has at most one field for every 20 octets.
  pub check_few : {m n : ℕ} → check file ≡ Ok (both_counts m n) → 20 * n ≤ length file
  check_few {m} {n} = by (tiling_of file) refl
    where
      by : (o : InFile) → tiling_of file ≡ o → checked o ≡ Ok (both_counts m n) → 20 * n ≤ length file
      by (tiled k fields) h e = let same : both_counts k (length fields) ≡ both_counts m n = cc in omega (arith, (tiled_sound h).1.few_fields, ap (λ (c : Counts). c.fields) same)
      by (refused r) h e = apart cc

  -- Where a file is tiled, the sections of its field k lie in it.
  pub field_laid : {m : ℕ} {fields : List Located} (k : ℕ) → tiling_of file ≡ tiled m fields → k < length fields → Laid file (get_or fields k nowhere)
  field_laid k h below = at_each k below (tiled_sound h).1.laid

  pub refused_placed : {f : Refusal} → tiling_of file ≡ refused f → f.place.0 ≤ largest
  refused_placed h = (check_placed file (ap checked h)).1

  pub find_lying : (k : ℕ) {r : Result Tiled Refusal} → r ≡ find file k → Lying file k r
  find_lying k h = subst (Lying file k) (sym h) (by (tiling_of file) refl)
    where
      by : (o : InFile) → tiling_of file ≡ o → Lying file k (found_in k o)
      by (tiled m fields) h = ((tiled_sound h).0, field_laid k h)
      by (refused r) h = refused_placed h
