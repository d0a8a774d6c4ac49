-- `accepted_sound`: whatever file is taken, the grammar describes it. A walk that finishes has met the sections of a message, in grids and
-- fields, and a reading that ends well has met messages.
use Prim.Native.Nat.{ℕ, zero, suc, ◌+◌, ◌-◌, ◌≤◌, ◌<◌}
use mathlib.Core.Path.{◌≡◌, refl, ap, sym, subst, subst⁻¹, subst₂, ◌∙◌}
use mathlib.Core.List.{List, [], ◌∷◌, ◌++◌, append_assoc, append-nil}
use mathlib.Core.Bool.{true}
use native.Mathlib.Omega.{arith}
use borrow.Author.Tests.{eqb-true}
use lib.Dec.{eqb}
use lib.ListN.{length}
use Rattle.std.specs.Prelude.{Option, None}
use Rattle.octets.specs.declared.FilePlace.{FilePlace}
use Rattle.octets.proofs.Cases.{split}
use Rattle.laws_machine.specs.Machine.{go, stop, Trace, halts, steps}
use Rattle.tiling_sections.specs.declared.Located.{Located}
use Rattle.tiling_sections.specs.Walk.{follows, starts_after, bitmap_after, Walking, passed, finished_by, took, entering, sections}
use Rattle.tiling_sections.specs.Stands as Stands
use Rattle.tiling_sections.proofs.Laws as walk
use Rattle.tiling_sections.proofs.Laws.{Walks, walks, walk_trace, Within, fields_within}
use Rattle.tiling.specs.Tiling.{stated_at, message, SoFar, tiled, file_step}
use Rattle.tiling.specs.Heads as Heads
use Rattle.tiling.proofs.Laws as reading
use Rattle.tiling.proofs.Laws.{Entered, enters, Reads, reads, Whole}
use Rattle.theorems_grammar.specs.Grammar as Grammar
use Rattle.theorems_grammar.specs.Grammar.{Section, Field, Fields, GridPart, GridParts, bitmap_of, located_at, Message, Messages, Accepted}
use Rattle.theorems_grammar.proofs.Complete.{walking_at, Goes, section_grows, field_grows}

module _ (file : List ℕ) (e : ℕ) where
  -- The first step of a walk that finishes.
  data First (w : Walking) : List Located → Type 0 where
    ended : e ≤ w.place → w.after ≡ 7 → First w w.fields
    met : {n q : ℕ} {all : List Located} → Section file n w.place q → q ≤ e → follows w.after n ≡ true → Goes file e (took file w n q) (passed (e + 4) all) → First w all

  first : {w : Walking} {all : List Located} → Goes file e w (passed (e + 4) all) → First w all
  first {w} (halts h) = by (subst (Walks file e w) h (walks file e w))
    where
      by : {end : ℕ} {all : List Located} → Walks file e w (stop (passed end all)) → First w all
      by (walk.end (Stands.ends i j)) = ended i j
  first {w} (steps h r) = by (subst (Walks file e w) h (walks file e w)) r
    where
      by : {v : Walking} {all : List Located} → Walks file e w (go v) → Goes file e v (passed (e + 4) all) → First w all
      by (walk.on (Stands.next f i)) r = met (record { least = f.least; ends = refl; numbered = refl }) f.room i r

  -- A section numbered n at w, and the walk behind it.
  record SectionThen (n : ℕ) (w : Walking) (all : List Located) : Type 0 where
    q : ℕ
    section : Section file n w.place q
    inside : q ≤ e
    goes : Goes file e (took file w n q) (passed (e + 4) all)

  section_then : (n : ℕ) (w : Walking) {m q : ℕ} {all : List Located} → m ≡ n → Section file m w.place q → q ≤ e → Goes file e (took file w m q) (passed (e + 4) all) → SectionThen n w all
  section_then n w {q} {all} same s inside r =
      record { q = q; section = subst (λ (m : ℕ). Section file m w.place q) same s; inside = inside; goes = subst (λ (m : ℕ). Goes file e (took file w m q) (passed (e + 4) all)) same r }

  -- Before a field is finished, one number alone may follow.
  must : (n : ℕ) (w : Walking) {all : List Located} → (w.after ≡ 7 → ⊥) → ((m : ℕ) → follows w.after m ≡ eqb m n) → Goes file e w (passed (e + 4) all) → SectionThen n w all
  must n w unfinished only r = by (first r)
    where
      by : {all : List Located} → First w all → SectionThen n w all
      by (ended _ i) = absurd (unfinished i)
      by (met {n = m} s inside allowed r) = section_then n w (eqb-true m n (sym (only m) ∙ allowed)) s inside r

  -- The walk behind a field.
  abbrev Behind : ℕ → ℕ → ℕ → Option FilePlace → {a b : ℕ} → Field file a b → List Located → List Located → Type 0
  Behind start one three bitmap {b} f before all = Goes file e (walking_at b 7 (located_at start one three bitmap f) (before ++ (located_at start one three bitmap f ∷ []))) (passed (e + 4) all)

  -- A field at p, where l is in force, and the walk behind it.
  record FieldThen (p : ℕ) (l : Located) (before all : List Located) : Type 0 where
    b : ℕ
    field : Field file p b
    inside : b ≤ e
    goes : Behind l.starts.zero.0 l.starts.one.0 l.starts.three.0 l.bitmap field before all

  field_then : (p after : ℕ) (l : Located) (before all : List Located) → SectionThen 4 (walking_at p after l before) all → FieldThen p l before all
  unfolding starts_after bitmap_after
  field_then p after l before all four =
      let w5 : Walking = took file (walking_at p after l before) 4 four.q in
      let five : SectionThen 5 w5 all = must 5 w5 (λ h. omega arith) (λ m. refl) four.goes in
      let w6 : Walking = took file w5 5 five.q in
      let six : SectionThen 6 w6 all = must 6 w6 (λ h. omega arith) (λ m. refl) five.goes in
      let w7 : Walking = took file w6 6 six.q in
      let seven : SectionThen 7 w7 all = must 7 w7 (λ h. omega arith) (λ m. refl) six.goes in
      record {
        b = seven.q;
        field = record { p5 = four.q; p6 = five.q; p7 = six.q; four = four.section; five = five.section; six = six.section; seven = seven.section };
        inside = seven.inside;
        goes = seven.goes;
      }

  -- What follows the fields of a grid.
  data Tail (start one p : ℕ) : List Located → Type 0 where
    nothing : p ≡ e → Tail start one p []
    grids : {fs : List Located} → GridParts file start one p e fs → Tail start one p fs

  -- The fields of a grid from a on, and what follows them, behind the fields `before`.
  record FieldsThen (start one three : ℕ) (bitmap : Option FilePlace) (a : ℕ) (before all : List Located) : Type 0 where
    q : ℕ
    own : List Located
    others : List Located
    fields : Fields file start one three bitmap a q own
    tail : Tail start one q others
    same : all ≡ before ++ (own ++ others)

  -- The grids from p on, behind the fields `before`.
  record GridsThen (start one p : ℕ) (before all : List Located) : Type 0 where
    others : List Located
    grids : GridParts file start one p e others
    same : all ≡ before ++ others

  -- Whatever field ends past p, the walk behind it meets the rest of its grid and what follows.
  abbrev FieldsPast : ℕ → Type 0
  FieldsPast p = (a b : ℕ) (f : Field file a b) → p < b → b ≤ e → (start one three : ℕ) (bitmap : Option FilePlace) (before all : List Located) → Behind start one three bitmap f before all → FieldsThen start one three bitmap a before all

  grids_then : (p after : ℕ) (l : Located) (before all : List Located) → FieldsPast p → SectionThen 3 (walking_at p after l before) all → GridsThen l.starts.zero.0 l.starts.one.0 p before all
  unfolding starts_after bitmap_after
  grids_then p after l before all fields_past three =
      let w4 : Walking = took file (walking_at p after l before) 3 three.q in
      let in3 : Located = finished_by file (walking_at p after l before) 3 three.q in
      let f : FieldThen three.q in3 before all = field_then three.q 3 in3 before all (must 4 w4 (λ h. omega arith) (λ m. refl) three.goes) in
      let past : p < f.b = omega (arith, section_grows three.section, field_grows f.field) in
      joined three.section (fields_past three.q f.b f.field past f.inside l.starts.zero.0 l.starts.one.0 p None before all f.goes)
    where
      with_tail : {start one q : ℕ} {fs gs : List Located} → GridPart file start one p q fs → Tail start one q gs → GridParts file start one p e (fs ++ gs)
      with_tail {start} {one} {fs} g (nothing i) = rw append-nil (Grammar.GridParts.last (subst (λ (x : ℕ). GridPart file start one p x fs) i g))
      with_tail g (grids r) = Grammar.GridParts.more g r

      joined : {start one p4 : ℕ} → Section file 3 p p4 → FieldsThen start one p None p4 before all → GridsThen start one p before all
      joined {p4} s r = record { others = r.own ++ r.others; grids = with_tail (record { p4 = p4; three = s; fields = r.fields }) r.tail; same = r.same }

  fields_then : {a p : ℕ} (f : Field file a p) → p ≤ e → FieldsPast p → (start one three : ℕ) (bitmap : Option FilePlace) (before all : List Located) → Behind start one three bitmap f before all → FieldsThen start one three bitmap a before all
  fields_then {a} {p} f inside fields_past start one three bitmap before _ r = by (first r)
    where
      l : Located
      l = located_at start one three bitmap f

      w : Walking
      w = walking_at p 7 l (before ++ (l ∷ []))

      one_more : {all : List Located} → FieldsThen start one three (bitmap_of bitmap f) p (before ++ (l ∷ [])) all → FieldsThen start one three bitmap a before all
      one_more r =
          record {
            q = r.q;
            own = l ∷ r.own;
            others = r.others;
            fields = Grammar.Fields.more f r.fields;
            tail = r.tail;
            same = r.same ∙ append_assoc before (l ∷ []) (r.own ++ r.others);
          }

      the_last : {all : List Located} → GridsThen start one p (before ++ (l ∷ [])) all → FieldsThen start one three bitmap a before all
      the_last r =
          record { q = p; own = l ∷ []; others = r.others; fields = Grammar.Fields.last f; tail = grids r.grids; same = r.same ∙ append_assoc before (l ∷ []) r.others }

      a_field : {all : List Located} → FieldThen p l (before ++ (l ∷ [])) all → FieldsThen start one three bitmap a before all
      a_field d = one_more (fields_past p d.b d.field (omega (arith, field_grows d.field)) d.inside start one three (bitmap_of bitmap f) _ _ d.goes)

      by : {all : List Located} → First w all → FieldsThen start one three bitmap a before all
      by (ended i _) = record { q = p; own = l ∷ []; others = []; fields = Grammar.Fields.last f; tail = nothing (omega arith); same = refl }
      by (met {n} s inside allowed r) =
          split (eqb n 3) (λ i. the_last (grids_then p 7 l _ _ fields_past (section_then 3 w (eqb-true n 3 i) s inside r)))
          (λ i. a_field (field_then p 7 l _ _ (section_then 4 w (eqb-true n 4 (rw i at allowed)) s inside r)))

  fields_past : (k p : ℕ) → e - p ≤ k → FieldsPast p
  fields_past zero p h a b f past inside = absurd (omega arith)
  fields_past (suc k) p h a b f past inside = fields_then f inside (fields_past k b (omega arith))

  -- Section 1 of the message at p and then grids, up to e.
  record Sections (p : ℕ) (fs : List Located) : Type 0 where
    p3 : ℕ
    one : Section file 1 (p + 16) p3
    grids : GridParts file p (p + 16) p3 e fs

  sections_sound : (p : ℕ) (fs : List Located) → sections file p e ≡ passed (e + 4) fs → Sections p fs
  unfolding starts_after bitmap_after
  sections_sound p fs h =
      let w : Walking = entering p in
      let one : SectionThen 1 w fs = must 1 w (λ i. omega arith) (λ m. refl) (subst (Goes file e w) h (walk_trace file e w)) in
      let p3 : ℕ = one.q in
      let in1 : Located = finished_by file w 1 p3 in
      let three : SectionThen 3 (walking_at p3 1 in1 []) fs = must 3 (walking_at p3 1 in1 []) (λ i. omega arith) (λ m. refl) one.goes in
      joined one.section (grids_then p3 1 in1 [] fs (fields_past (e - p3) p3 (omega arith)) three)
    where
      joined : {p3 : ℕ} → Section file 1 (p + 16) p3 → GridsThen p (p + 16) p3 [] fs → Sections p fs
      joined {p3} one r = record { p3 = p3; one = one; grids = subst⁻¹ (GridParts file p (p + 16) p3 e) r.same r.grids }

-- The messages that a reading still meets which ends well.
record Left (file : List ℕ) (r : SoFar) (m : ℕ) (fs : List Located) : Type 0 where
  count : ℕ
  more : List Located
  messages : Messages file r.place count more
  counts : r.messages + count ≡ m
  same : r.fields ++ more ≡ fs

module _ {file : List ℕ} where
  pub message_sound : {p q : ℕ} {fs : List Located} → message file p ≡ passed q fs → Message file p q fs
  message_sound {p} h = by (subst (Entered file p) h (enters file p))
    where
      by : {q : ℕ} {fs : List Located} → Entered file p (passed q fs) → Message file p q fs
      by {q} {fs} (reading.walked (Heads.headed holds sevens) h) =
          let e : ℕ = p + (stated_at file p - 4) in
          let ends : q ≡ e + 4 = (subst (Within p e) h (fields_within file p e (omega arith))).0 in
          let s : Sections file e p fs = sections_sound file e p fs (h ∙ ap (λ (x : ℕ). passed x fs) ends) in
          record {
            mark = holds.opens.mark;
            edition = holds.opens.edition;
            stated = omega arith;
            inside = omega arith;
            p3 = s.p3;
            p7777 = e;
            one = s.one;
            grids = s.grids;
            closing = sevens;
            closed = sym ends;
          }

  left : {r : SoFar} {m : ℕ} {fs : List Located} → Trace (file_step file) r (tiled m fs) → r.place ≤ length file → Left file r m fs
  left {r} (halts h) inside = by (subst (Reads file r) h (reads file r))
    where
      by : {m : ℕ} {fs : List Located} → Reads file r (stop (tiled m fs)) → Left file r m fs
      by (reading.end i) =
          let ends : length file ≡ r.place = omega arith in
          record { count = 0; more = []; messages = subst (λ (p : ℕ). Messages file p 0 []) ends Grammar.Messages.none; counts = omega arith; same = append-nil r.fields }
  left {r} (steps h t) inside = by (subst (Reads file r) h (reads file r)) (left t)
    where
      by : {t : SoFar} {m : ℕ} {fs : List Located} → Reads file r (go t) → (t.place ≤ length file → Left file t m fs) → Left file r m fs
      by {fs} (reading.on {q} {fields} i h) again =
          let d : Message file r.place q fields = message_sound h in
          let l : Left file _ _ fs = again d.inside in
          record {
            count = l.count + 1;
            more = fields ++ l.more;
            messages = Grammar.Messages.next d l.messages;
            counts = omega (arith, l.counts);
            same = sym (append_assoc r.fields fields l.more) ∙ l.same;
          }

  pub accepted_sound : {m : ℕ} {fs : List Located} → Whole file (tiled m fs) → Accepted file m fs
  accepted_sound {m} {fs} (reading.read some few t) =
      let l : Left file _ m fs = left t (omega arith) in
      let counts : l.count ≡ m = omega (arith, l.counts) in
      record { some = some; few = few; messages = subst₂ (Messages file 0) counts l.same l.messages }
