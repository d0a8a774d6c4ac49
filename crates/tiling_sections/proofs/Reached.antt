-- What the loop of `tiling_sections::fields_in` keeps: the walk over the sections from the start finds what the walk from here finds. The code has only
-- the count of the fields and the place of one of them; the list of all is the proof's.
use Prim.Native.Nat.{ℕ, ◌+◌, ◌≤◌}
use mathlib.Core.Path.{◌≡◌, refl, ap, ap₂, sym, ◌∙◌}
use mathlib.Core.List.{List, [], ◌∷◌, ◌++◌}
use mathlib.Core.Bool.{cond}
use native.Mathlib.Omega.{arith}
use borrow.Author.Tests.{eqb-true, eqb-false, ltb-true, ltb-false}
use lib.Dec.{ltb, eqb}
use lib.ListN.{length, get_or, length-append, get_or-append, get_or-eq_default}
use lib.Seq.{get_or-append_seam}
use Rattle.std.specs.Prelude.{Option, Some, None, Ok, Err}
use Rattle.octets.specs.declared.FilePlace.{FilePlace}
use Rattle.octets.specs.Places.{at}
use Rattle.octets.proofs.Cases.{split}
use Rattle.refusals.specs.declared.Why.{Why}
use Rattle.refusals.specs.Refusals.{refusal}
use Rattle.tiling_sections.specs.declared.Starts.{Starts}
use Rattle.tiling_sections.specs.declared.Located.{Located}
use Rattle.tiling_sections.specs.declared.Standing.{Standing}
use Rattle.tiling_sections.specs.Walk.{Walking, section_at, starts_after, bitmap_after, finished_by, walk_from, sections, walked_of, told, nowhere}
use Rattle.tiling_sections.proofs.Laws.{next_within, walk_on, walk_end, walk_bad}

-- The walk as the code carries it: the place that it has come to, the number of the section before that, how many fields are finished, the
-- starts and the bitmap in force, and where the field lies that is looked for, once it is finished.
pub record Progress : Type 0 where
  pub at : FilePlace
  pub after : ℕ
  pub fields : ℕ
  pub starts : Starts
  pub bitmap : Option FilePlace
  pub hit : Located

-- The code's walk past a section numbered n that ends at q, in search of field k.
abbrev pub onward : List ℕ → Progress → ℕ → ℕ → ℕ → Progress
onward file w k n q =
    record {
      at = at q;
      after = n;
      fields = cond (eqb n 7) (w.fields + 1) w.fields;
      starts = starts_after w.starts n w.at.0;
      bitmap = bitmap_after file w.bitmap n w.at.0 q;
      hit =
          cond (eqb n 7)
          (cond (eqb w.fields k) (record { starts = starts_after w.starts n w.at.0; bitmap = bitmap_after file w.bitmap n w.at.0 q }) w.hit)
          w.hit;
    }

-- The walk that the code's progress w stands for, with these fields finished.
abbrev walking : Progress → List Located → Walking
walking w fields = record { place = w.at.0; after = w.after; starts = w.starts; bitmap = w.bitmap; fields = fields }

-- The walk over the message at p, whose sections end at e, in search of field k, has come to w.
pub record Reached (file : List ℕ) (p e k : ℕ) (w : Progress) : Type 0 where
  pub inside : w.at.0 ≤ e
  pub few : w.fields ≤ w.at.0
  pub fields : List Located
  pub counts : length fields ≡ w.fields
  pub found : get_or fields k nowhere ≡ w.hit
  pub same : sections file p e ≡ walk_from file e (walking w fields)

-- The walk begins behind section 0, with nothing found.
pub reached_start : (file : List ℕ) (p e k : ℕ) {hit : Located} {starts : Starts} → p + 16 ≤ e → hit ≡ nowhere → starts ≡ starts_after hit.starts 0 p →
    Reached file p e k (record { at = at (p + 16); after = 0; fields = 0; starts = starts; bitmap = None; hit = hit })
reached_start file p e k h none opened = rw (opened, none) (record { inside = h; few = omega arith; fields = []; counts = refl; found = refl; same = refl })

-- Field k of a list, once the list has one field more.
found_more : (fields : List Located) (x : Located) (k : ℕ) → get_or (fields ++ (x ∷ [])) k nowhere ≡ cond (eqb (length fields) k) x (get_or fields k nowhere)
found_more fields x k =
    split (eqb (length fields) k) (λ i. rw (i, ← eqb-true (length fields) k i) (get_or-append_seam fields x [] nowhere))
    (λ i.
    rw i
    (split (ltb k (length fields)) (λ j. get_or-append fields (x ∷ []) nowhere k (ltb-true _ _ j))
    (λ j.
    get_or-eq_default (fields ++ (x ∷ [])) nowhere (simp length-append (omega (arith, eqb-false (length fields) k i, ltb-false k (length fields) j)))
    ∙ sym (get_or-eq_default fields nowhere (ltb-false _ _ j)))))

module _ {file : List ℕ} {p e k : ℕ} {w : Progress} (r : Reached file p e k w) where
  pub reached_on : {s : Standing} → section_at file w.at.0 e w.after ≡ Ok (Some s) → Reached file p e k (onward file w k s.number s.next.0)
  reached_on {s} h =
      let n : ℕ = s.number in
      let within : (w.at.0 + 5 ≤ s.next.0) × (s.next.0 ≤ e) = next_within file w.at.0 e w.after h in
      let on : sections file p e ≡ _ = r.same ∙ walk_on file e (walking w r.fields) s h in
      let x : Located = finished_by file (walking w r.fields) n s.next.0 in
      split (eqb n 7)
      (λ i.
      rw i
      (record {
        inside = within.1;
        few = omega arith;
        fields = r.fields ++ (x ∷ []);
        counts = simp length-append (omega arith);
        found = found_more r.fields x k ∙ rw (r.counts, r.found);
        same = rw i at on;
      }))
      (λ i. rw i (record { inside = within.1; few = omega arith; fields = r.fields; counts = r.counts; found = r.found; same = rw i at on }))

  pub reached_end : section_at file w.at.0 e w.after ≡ Ok None → told k (sections file p e) ≡ Ok (walked_of w.fields (at (e + 4)) w.hit)
  reached_end h = ap (told k) (r.same ∙ walk_end file e _ h) ∙ ap₂ (λ (n : ℕ) (l : Located). Ok (walked_of n (at (e + 4)) l)) r.counts r.found

  pub reached_bad : {why : Why} → section_at file w.at.0 e w.after ≡ Err why → told k (sections file p e) ≡ Err (refusal why w.at.0)
  reached_bad {why} h = ap (told k) (r.same ∙ walk_bad file e _ why h)
