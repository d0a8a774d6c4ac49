-- `accepted_complete`: whatever file the grammar describes is taken. The walk steps along the sections of a message, and the
-- reading along the messages of a file.
use Prim.Native.Nat.{ℕ, ◌+◌, ◌-◌, ◌≤◌}
use mathlib.Core.Path.{◌≡◌, refl, ap, ap₂, sym, subst, subst⁻¹, ◌∙◌}
use mathlib.Core.List.{List, [], ◌∷◌, ◌++◌, append_assoc, append-nil}
use mathlib.Core.Bool.{true}
use native.Mathlib.Nat.{zero-add}
use native.Mathlib.Omega.{arith}
use lib.ListN.{length}
use Rattle.std.specs.Prelude.{Option, Some, None, Ok}
use Rattle.octets.specs.declared.FilePlace.{FilePlace}
use Rattle.octets.specs.Places.{at}
use Rattle.laws_machine.specs.Machine.{stop, Trace, halts, steps}
use Rattle.tiling_sections.specs.declared.Starts.{Starts}
use Rattle.tiling_sections.specs.declared.Located.{Located}
use Rattle.tiling_sections.specs.Walk.{follows, section_at, starts_after, bitmap_after, nowhere, Walking, InMessage, passed, took, stepped, section_step, sections, standing}
use Rattle.tiling_sections.specs.Stands as Stands
use Rattle.tiling_sections.proofs.Laws.{stands_only, trace_walk}
use Rattle.tiling.specs.Tiling.{stated_at, message, SoFar, InFile, tiled, met, file_step, tiling_of}
use Rattle.tiling.specs.Heads.{Heads, Holds}
use Rattle.tiling.proofs.Laws as reading
use Rattle.tiling.proofs.Laws.{enters_only, past, step_end, step_met, whole_only}
use Rattle.theorems_grammar.specs.Grammar as Grammar
use Rattle.theorems_grammar.specs.Grammar.{Section, Field, Fields, GridPart, GridParts, bitmap_of, located_at, Message, Messages, Accepted}

-- Each part of a message takes octets.
module _ {file : List ℕ} where
  pub section_grows : {n a b : ℕ} → Section file n a b → a + 5 ≤ b
  section_grows s = omega (arith, s.least, s.ends)

  pub field_grows : {a b : ℕ} → Field file a b → a + 20 ≤ b
  field_grows f = omega (arith, section_grows f.four, section_grows f.five, section_grows f.six, section_grows f.seven)

  pub fields_grow : {start one three : ℕ} {bitmap : Option FilePlace} {a b : ℕ} {fs : List Located} → Fields file start one three bitmap a b fs → a + 20 ≤ b
  fields_grow (Grammar.Fields.last f) = field_grows f
  fields_grow (Grammar.Fields.more f r) = omega (arith, field_grows f, fields_grow r)

  pub grid_grows : {start one a b : ℕ} {fs : List Located} → GridPart file start one a b fs → a + 25 ≤ b
  grid_grows g = omega (arith, section_grows g.three, fields_grow g.fields)

  pub grids_grow : {start one a b : ℕ} {fs : List Located} → GridParts file start one a b fs → a + 25 ≤ b
  grids_grow (Grammar.GridParts.last g) = grid_grows g
  grids_grow (Grammar.GridParts.more g r) = omega (arith, grid_grows g, grids_grow r)

  pub message_grows : {a b : ℕ} {fs : List Located} → Message file a b fs → a + 50 ≤ b
  message_grows m = omega (arith, section_grows m.one, grids_grow m.grids)

-- The walk at p behind a section numbered `after`, with the starts and the bitmap of l in force.
abbrev pub walking_at : ℕ → ℕ → Located → List Located → Walking
walking_at p after l fields = record { place = p; after = after; starts = l.starts; bitmap = l.bitmap; fields = fields }

-- Sections 0, 1 and 3 and the bitmap in force, beside what is left of the field before.
abbrev in_force : ℕ → ℕ → ℕ → Option FilePlace → Starts → Located
in_force start one three bitmap s =
    record {
      starts = record { zero = at start; one = at one; three = at three; four = s.four; five = s.five; six = s.six; seven = s.seven };
      bitmap = bitmap;
    }

module _ (file : List ℕ) (e : ℕ) where
  -- The steps of the walk from w to its answer.
  abbrev pub Goes : Walking → InMessage → Type 0
  Goes = Trace (section_step file e)

  pub section_goes : {w : Walking} {n b : ℕ} {t : InMessage} → Section file n w.place b → b ≤ e → follows w.after n ≡ true → Goes (took file w n b) t → Goes w t
  section_goes {w} {n} {b} s inside allowed = steps (ap (stepped file e w) found)
    where
      found : section_at file w.place e w.after ≡ Ok (Some (standing n (at b)))
      found =
          stands_only file w.place e w.after (Stands.next (record { least = s.least; room = rw s.ends inside }) (rw s.numbered allowed)) ∙
          ap₂ (λ (m q : ℕ). Ok (Some (standing m (at q)))) s.numbered s.ends

  field_goes : (after : ℕ) {a b : ℕ} (f : Field file a b) → b ≤ e → follows after 4 ≡ true → (start one three : ℕ) (bitmap : Option FilePlace) (s : Starts) (before : List Located) {t : InMessage} →
      Goes (walking_at b 7 (located_at start one three bitmap f) (before ++ (located_at start one three bitmap f ∷ []))) t → Goes (walking_at a after (in_force start one three bitmap s) before) t
  unfolding starts_after bitmap_after
  field_goes after {a} {b} f inside allowed start one three bitmap s before on =
      let i6 : f.p5 + 5 ≤ f.p6 = section_grows f.five in
      let i7 : f.p6 + 5 ≤ f.p7 = section_grows f.six in
      let i8 : f.p7 + 5 ≤ b = section_grows f.seven in
      section_goes f.four (omega arith) allowed
      (section_goes f.five (omega arith) refl (section_goes f.six (omega arith) refl (section_goes f.seven inside refl on)))

  -- The walk goes on at b behind a field, whatever section 3 and whatever bitmap are then in force.
  abbrev GoesOn : ℕ → ℕ → ℕ → List Located → InMessage → Type 0
  GoesOn start one b fs t = (three : ℕ) (bitmap : Option FilePlace) (s : Starts) → Goes (walking_at b 7 (in_force start one three bitmap s) fs) t

  -- The walk goes from a, behind a section numbered `after`, to b, and meets the fields fs.
  abbrev Passes : ℕ → ℕ → ℕ → ℕ → ℕ → Option FilePlace → ℕ → List Located → Type 0
  Passes after a start one three bitmap b fs = (s : Starts) (before : List Located) (t : InMessage) → GoesOn start one b (before ++ fs) t → Goes (walking_at a after (in_force start one three bitmap s) before) t

  fields_go : {start one three : ℕ} (after : ℕ) {a b : ℕ} {bitmap : Option FilePlace} {fs : List Located} → Fields file start one three bitmap a b fs → b ≤ e → follows after 4 ≡ true → Passes after a start one three bitmap b fs
  fields_go {start} {one} {three} after {bitmap} (Grammar.Fields.last f) inside allowed s before t on =
      field_goes after f inside allowed start one three bitmap s before (on three (bitmap_of bitmap f) (located_at start one three bitmap f).starts)
  fields_go {start} {one} {three} after {b} {bitmap} (Grammar.Fields.more {fs} f r) inside allowed s before t on =
      let l : Located = located_at start one three bitmap f in
      field_goes after f (omega (arith, fields_grow r)) allowed start one three bitmap s before
      (fields_go 7 r inside refl l.starts (before ++ (l ∷ [])) t (subst⁻¹ (λ (gs : List Located). GoesOn start one b gs t) (append_assoc before (l ∷ []) fs) on))

  grid_goes : (after : ℕ) {a b start one : ℕ} {fs : List Located} → GridPart file start one a b fs → b ≤ e → follows after 3 ≡ true → (three : ℕ) (bitmap : Option FilePlace) → Passes after a start one three bitmap b fs
  unfolding starts_after bitmap_after
  grid_goes after g inside allowed three bitmap s before t on =
      section_goes g.three (omega (arith, fields_grow g.fields)) allowed (fields_go 3 g.fields inside refl s before t on)

  grids_go : {start one : ℕ} (after : ℕ) {a b : ℕ} {fs : List Located} → GridParts file start one a b fs → b ≤ e → follows after 3 ≡ true → (three : ℕ) (bitmap : Option FilePlace) → Passes after a start one three bitmap b fs
  grids_go after (Grammar.GridParts.last g) inside allowed three bitmap s before t on = grid_goes after g inside allowed three bitmap s before t on
  grids_go {start} {one} after {b} (Grammar.GridParts.more {fs} {gs} g r) inside allowed three bitmap s before t on =
      grid_goes after g (omega (arith, grids_grow r)) allowed three bitmap s before t
      (λ three' bitmap' s'.
      grids_go 7 r inside refl three' bitmap' s' (before ++ fs) t (subst⁻¹ (λ (hs : List Located). GoesOn start one b hs t) (append_assoc before fs gs) on))

  -- Section 1 of the message at p and then grids, up to e.
  sections_complete : {p q : ℕ} {fs : List Located} → Section file 1 (p + 16) q → GridParts file p (p + 16) q e fs → sections file p e ≡ passed (e + 4) fs
  unfolding starts_after bitmap_after
  sections_complete {p} {fs} one grids =
      trace_walk file e
      (section_goes one (omega (arith, grids_grow grids)) refl
      (grids_go 1 grids (omega arith) refl 0 None nowhere.starts [] (passed (e + 4) fs)
      (λ three bitmap before. halts (ap (stepped file e (walking_at e 7 (in_force p (p + 16) three bitmap before) fs)) (stands_only file e e 7 (Stands.ends (omega arith) refl))))))

module _ {file : List ℕ} where
  pub message_complete : {a b : ℕ} {fs : List Located} → Message file a b fs → message file a ≡ passed b fs
  message_complete {a} {b} {fs} m =
      let grows : a + 50 ≤ b = message_grows m in
      let last : a + (stated_at file a - 4) ≡ m.p7777 = omega (arith, m.stated, m.closed) in
      let holds : Holds file a = record { opens = record { there = omega (arith, m.inside); mark = m.mark; edition = m.edition }; least = omega (arith, m.stated); there = omega (arith, m.stated, m.inside) } in
      let heads : Heads file a (Ok (at m.p7777)) = rw last at (Heads.headed holds (rw last m.closing)) in
      enters_only file a (reading.walked heads (sections_complete file m.p7777 m.one m.grids)) ∙ ap (λ (x : ℕ). passed x fs) m.closed

  -- The reading steps along a message.
  pub message_goes : (r : SoFar) {b : ℕ} {fs : List Located} {o : InFile} → Message file r.place b fs → Trace (file_step file) (past r b fs) o → Trace (file_step file) r o
  message_goes r m = steps (step_met file r (omega (arith, message_grows m, m.inside)) ∙ ap (met r) (message_complete m))

  messages_go : {a m : ℕ} {fs : List Located} → Messages file a m fs → (k : ℕ) (gs : List Located) → Trace (file_step file) (record { place = a; messages = k; fields = gs }) (tiled (k + m) (gs ++ fs))
  messages_go Grammar.Messages.none k gs =
      let none_more : k ≡ k + 0 = omega arith in
      halts (step_end file (record { place = length file; messages = k; fields = gs }) (omega arith) ∙ ap₂ (λ (n : ℕ) (hs : List Located). stop (tiled n hs)) none_more (sym (append-nil gs)))
  messages_go {a} (Grammar.Messages.next {m} {fs} {gs = hs} d r) k gs =
      let one_more : k + 1 + m ≡ k + (m + 1) = omega arith in
      message_goes (record { place = a; messages = k; fields = gs }) d
      (subst (Trace (file_step file) _) (ap₂ tiled one_more (append_assoc gs fs hs)) (messages_go r (k + 1) (gs ++ fs)))

  pub accepted_complete : {m : ℕ} {fs : List Located} → Accepted file m fs → tiling_of file ≡ tiled m fs
  accepted_complete {m} {fs} a = whole_only file (reading.read a.some a.few (messages_go a.messages 0 [])) ∙ ap (λ (n : ℕ). tiled n fs) (zero-add m)
