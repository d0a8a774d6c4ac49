-- The laws of the messages: `Heads` says exactly what `header_at` computes, the reading of a file takes one message after another, and all that
-- it gives lies within the file.
use Prim.Native.Nat.{ℕ, ◌+◌, ◌-◌, ◌*◌, ◌≤◌, ◌<◌}
use mathlib.Core.Path.{◌≡◌, refl, ap, subst, ◌∙◌}
use mathlib.Core.List.{List, [], ◌++◌}
use mathlib.Core.Bool.{cond, not}
use native.Mathlib.Omega.{arith}
use native.Mathlib.Nat.{le_of_lt}
use borrow.Author.Tests.{eq-eqb, ne_eqb, eqb-true, eqb-false, lt-ltb, le-ltb, ltb-true, ltb-false}
use lib.Dec.{ltb, eqb}
use lib.ListN.{length}
use Rattle.std.specs.Prelude.{Result, Ok, Err}
use Rattle.octets.specs.declared.FilePlace.{FilePlace}
use Rattle.octets.proofs.Cases.{apart, split}
use Rattle.octets.specs.Places.{at}
use Rattle.refusals.specs.declared.Refusal.{Refusal}
use Rattle.refusals.specs.declared.Why.{Why}
use Rattle.refusals.specs.Refusals.{refusal}
use Rattle.laws_machine.specs.Machine.{Next, go, stop, Trace, halts, steps}
use Rattle.laws_machine.proofs.Laws.{run_go, run_stop, run_trace, trace_run}
use Rattle.tiling_sections.specs.declared.Located.{Located}
use Rattle.tiling_sections.specs.Walk.{InMessage, passed, failed, sections}
use Rattle.tiling_sections.specs.Laid.{Laid}
use Rattle.tiling_sections.proofs.Laws.{Within, fields_within}
use Rattle.tiling_sections.proofs.Laid.{Every, FieldsLaid, sections_laid}
use Rattle.tiling.specs.Tiling.{largest, grib, sevens, opening_at, edition_at, stated_at, closing_at, header_at, entered, message, SoFar, InFile, tiled, refused, met, file_step, read_from, tiling_of, checked, check}
use Rattle.tiling.specs.Heads.{Opens, Holds, Heads, few, strange, short, long, endless, headed}

module _ (file : List ℕ) (p : ℕ) where
  -- A message opens at p or it does not.
  opening : {A : Type 0} → p + 16 ≤ length file → (Opens file p → A) → ((Opens file p → ⊥) → A) → A
  opening h opens not_so =
      split (eqb (opening_at file p) grib)
      (λ i.
      split (eqb (edition_at file p) 2) (λ j. opens (record { there = h; mark = eqb-true _ _ i; edition = eqb-true _ _ j }))
      (λ j. not_so (λ o. eqb-false _ _ j o.edition)))
      (λ i. not_so (λ o. eqb-false _ _ i o.mark))

  at_strange : p + 16 ≤ length file → (Opens file p → ⊥) → header_at file p ≡ Err Why.NotGrib2
  unfolding header_at
  at_strange h strangely =
      rw (le-ltb (length file - p) 16 (omega arith))
      (split (eqb (opening_at file p) grib)
      (λ i.
      split (eqb (edition_at file p) 2) (λ j. absurd (strangely (record { there = h; mark = eqb-true _ _ i; edition = eqb-true _ _ j }))) (λ j. rw (i, j)))
      (λ i. rw i))

  at_opens : Opens file p → header_at file p ≡ cond (ltb (stated_at file p) 20) (Err Why.BadLength) (cond (ltb (length file - p) (stated_at file p)) (Err Why.Cut) (cond (not (eqb (closing_at file p) sevens)) (Err Why.NoEnd) (Ok (at (p + (stated_at file p - 4))))))
  unfolding header_at
  at_opens o = rw (le-ltb (length file - p) 16 (omega arith), eq-eqb (opening_at file p) grib o.mark, eq-eqb (edition_at file p) 2 o.edition)

  at_holds : Holds file p → header_at file p ≡ cond (not (eqb (closing_at file p) sevens)) (Err Why.NoEnd) (Ok (at (p + (stated_at file p - 4))))
  at_holds h = at_opens h.opens ∙ rw (le-ltb (stated_at file p) 20 h.least, le-ltb (length file - p) (stated_at file p) (omega arith))

  -- `Heads` says what `header_at` computes, and nothing else.
  pub heads_only : {d : Result FilePlace Why} → Heads file p d → header_at file p ≡ d
  unfolding header_at
  heads_only (few h) = rw (lt-ltb (length file - p) 16 (omega arith))
  heads_only (strange h i) = at_strange h i
  heads_only (short o h) = at_opens o ∙ rw (lt-ltb (stated_at file p) 20 h)
  heads_only (long o h i) = at_opens o ∙ rw (le-ltb (stated_at file p) 20 h, lt-ltb (length file - p) (stated_at file p) (omega arith))
  heads_only (endless h i) = at_holds h ∙ rw (ne_eqb (closing_at file p) sevens i)
  heads_only (headed h i) = at_holds h ∙ rw (eq-eqb (closing_at file p) sevens i)

  pub heads : Heads file p (header_at file p)
  heads =
      split (ltb (length file) (p + 16)) (λ i. exactly (few (ltb-true _ _ i)))
      (λ i.
      opening (ltb-false _ _ i)
      (λ o.
      split (ltb (stated_at file p) 20) (λ j. exactly (short o (ltb-true _ _ j)))
      (λ j.
      split (ltb (length file) (p + stated_at file p)) (λ k. exactly (long o (ltb-false _ _ j) (ltb-true _ _ k)))
      (λ k.
      let holds : Holds file p = record { opens = o; least = ltb-false _ _ j; there = ltb-false _ _ k } in
      split (eqb (closing_at file p) sevens) (λ l. exactly (headed holds (eqb-true _ _ l))) (λ l. exactly (endless holds (eqb-false _ _ l))))))
      (λ o. exactly (strange (ltb-false _ _ i) o)))
    where
      exactly : {d : Result FilePlace Why} → Heads file p d → Heads file p (header_at file p)
      exactly d = rw (heads_only d) d

  -- The sections end behind section 0, with room for "7777".
  pub header_within : {e : FilePlace} → header_at file p ≡ Ok e → (p + 16 ≤ e.0) × (e.0 + 4 ≤ length file)
  header_within h = by (rw h at heads)
    where
      by : {e : FilePlace} → Heads file p (Ok e) → (p + 16 ≤ e.0) × (e.0 + 4 ≤ length file)
      by (headed holds i) = omega arith

  -- The message at p by its header and its walk.
  pub message_bad : (why : Why) → header_at file p ≡ Err why → message file p ≡ failed (refusal why p)
  unfolding message
  message_bad why h = ap (entered file p) h

  pub message_walked : (e : FilePlace) → header_at file p ≡ Ok e → message file p ≡ sections file p e.0
  unfolding message
  message_walked e h = ap (entered file p) h

  -- The same as one view: what the message at p gives, with what its header and its walk give.
  pub data Entered : InMessage → Type 0 where
    headless : {why : Why} → Heads file p (Err why) → Entered (failed (refusal why p))
    walked : {e : ℕ} {m : InMessage} → Heads file p (Ok (at e)) → sections file p e ≡ m → Entered m

  pub enters : Entered (message file p)
  unfolding message
  enters = by (header_at file p) heads
    where
      by : (d : Result FilePlace Why) → Heads file p d → Entered (entered file p d)
      by (Ok e) d = walked d refl
      by (Err why) d = headless d

  pub enters_only : {m : InMessage} → Entered m → message file p ≡ m
  enters_only (headless d) = message_bad _ (heads_only d)
  enters_only (walked {e} d h) = message_walked (at e) (heads_only d) ∙ h

-- A message ends past its start, within the file, and has at most one field for every 20 octets. A refusal names a place from its start on, within
-- the file.
abbrev pub Bounded : List ℕ → ℕ → InMessage → Type 0
Bounded file p (passed q fields) = (p + 20 ≤ q) × (q ≤ length file) × (20 * length fields + p ≤ q)
Bounded file p (failed r) = (p ≤ r.place.0) × (r.place.0 ≤ length file)

pub message_bounded : (file : List ℕ) (p : ℕ) → p ≤ length file → Bounded file p (message file p)
message_bounded file p inside = by (enters file p)
  where
    bounded : (e : ℕ) → p + 16 ≤ e → e + 4 ≤ length file → (m : InMessage) → Within p e m → Bounded file p m
    bounded e least room (passed q fields) within = omega arith
    bounded e least room (failed r) within = omega arith

    by : {m : InMessage} → Entered file p m → Bounded file p m
    by (headless _) = omega arith
    by (walked {m} (headed holds i) h) =
        let e : ℕ = p + (stated_at file p - 4) in
        bounded e (omega arith) (omega arith) m (subst (Within p e) h (fields_within file p e (omega arith)))

-- The fields of a message lie in the file.
abbrev pub MessageLaid : List ℕ → InMessage → Type 0
MessageLaid file (passed q fields) = Every (Laid file) fields
MessageLaid file (failed r) = Unit {0}

pub message_laid : (file : List ℕ) (p : ℕ) → MessageLaid file (message file p)
message_laid file p = by (enters file p)
  where
    laid : (e : ℕ) (room : e + 4 ≤ length file) (m : InMessage) → FieldsLaid file p e room m → MessageLaid file m
    laid e room (passed q fields) d = d
    laid e room (failed r) d = tt

    by : {m : InMessage} → Entered file p m → MessageLaid file m
    by (headless _) = tt
    by (walked {m} (headed holds i) h) =
        let e : ℕ = p + (stated_at file p - 4) in
        let room : e + 4 ≤ length file = omega arith in
        laid e room m (subst (FieldsLaid file p e room) h (sections_laid file p e room (omega arith)))

-- The reading past a message that ends at q with these fields.
abbrev pub past : SoFar → ℕ → List Located → SoFar
past r q fields = record { place = q; messages = r.messages + 1; fields = r.fields ++ fields }

-- The reading before the first message.
abbrev pub begun : SoFar
begun = record { place = 0; messages = 0; fields = [] }

module _ (file : List ℕ) where
  pub step_end : (r : SoFar) → length file ≤ r.place → file_step file r ≡ stop (tiled r.messages r.fields)
  step_end r h = rw (le-ltb r.place (length file) h)

  pub step_met : (r : SoFar) → r.place < length file → file_step file r ≡ met r (message file r.place)
  step_met r h = rw (lt-ltb r.place (length file) h)

  -- What one step of the reading does, by the message that is met.
  pub data Reads (r : SoFar) : Next SoFar InFile → Type 0 where
    on : {q : ℕ} {fields : List Located} → r.place < length file → message file r.place ≡ passed q fields → Reads r (go (past r q fields))
    bad : {f : Refusal} → r.place < length file → message file r.place ≡ failed f → Reads r (stop (refused f))
    end : length file ≤ r.place → Reads r (stop (tiled r.messages r.fields))

  pub reads : (r : SoFar) → Reads r (file_step file r)
  reads r = split (ltb r.place (length file)) (λ i. rw i (by (ltb-true _ _ i) (message file r.place) refl)) (λ i. rw i (end (ltb-false _ _ i)))
    where
      by : r.place < length file → (m : InMessage) → message file r.place ≡ m → Reads r (met r m)
      by h (passed q fields) i = on h i
      by h (failed f) i = bad h i

  pub falls : (r t : SoFar) → file_step file r ≡ go t → length file - t.place < length file - r.place
  falls r t h = by (subst (Reads r) h (reads r))
    where
      by : {t : SoFar} → Reads r (go t) → length file - t.place < length file - r.place
      by (on {q} {fields} i m) =
          let bounded : Bounded file r.place (passed q fields) = subst (Bounded file r.place) m (message_bounded file r.place (le_of_lt i)) in
          omega arith

  pub read_on : (r : SoFar) (q : ℕ) (fields : List Located) → r.place < length file → message file r.place ≡ passed q fields → read_from file r ≡ read_from file (past r q fields)
  read_on r q fields h m = run_go (file_step file) (tiled 0 []) (λ (s : SoFar). length file - s.place) falls r _ (step_met r h ∙ ap (met r) m)

  pub read_bad : (r : SoFar) (f : Refusal) → r.place < length file → message file r.place ≡ failed f → read_from file r ≡ refused f
  read_bad r f h m = run_stop (file_step file) (tiled 0 []) (λ (s : SoFar). length file - s.place) falls r _ (step_met r h ∙ ap (met r) m)

  pub read_end : (r : SoFar) → length file ≤ r.place → read_from file r ≡ tiled r.messages r.fields
  read_end r h = run_stop (file_step file) (tiled 0 []) (λ (s : SoFar). length file - s.place) falls r _ (step_end r h)

  tiles_place : {r : SoFar} {f : Refusal} → Trace (file_step file) r (refused f) → f.place.0 ≤ length file
  tiles_place {r} (halts h) = by (subst (Reads r) h (reads r))
    where
      by : {f : Refusal} → Reads r (stop (refused f)) → f.place.0 ≤ length file
      by {f} (bad i m) =
          let bounded : Bounded file r.place (failed f) = subst (Bounded file r.place) m (message_bounded file r.place (le_of_lt i)) in
          bounded.1
  tiles_place (steps h t) = tiles_place t

  -- What the whole file gives: refusals 1 and 2 come first.
  pub data Whole : InFile → Type 0 where
    too_long : largest < length file → Whole (refused (refusal Why.TooLong 0))
    empty : length file ≡ 0 → Whole (refused (refusal Why.Empty 0))
    read : {o : InFile} → 1 ≤ length file → length file ≤ largest → Trace (file_step file) begun o → Whole o

  pub whole : Whole (tiling_of file)
  whole =
      split (ltb largest (length file)) (λ i. rw i (too_long (ltb-true _ _ i)))
      (λ i.
      split (eqb (length file) 0) (λ j. rw (i, j) (empty (eqb-true _ _ j)))
      (λ j.
      let some : 1 ≤ length file = omega (arith, eqb-false (length file) 0 j) in
      rw (i, j) (read some (ltb-false _ _ i) (run_trace (file_step file) (tiled 0 []) (λ (s : SoFar). length file - s.place) falls begun))))

  pub whole_only : {o : InFile} → Whole o → tiling_of file ≡ o
  whole_only (too_long h) = rw (lt-ltb largest (length file) h)
  whole_only (empty h) = rw (le-ltb largest (length file) (omega arith), eq-eqb (length file) 0 h)
  whole_only (read h i t) =
      rw (le-ltb largest (length file) i, ne_eqb (length file) 0 (λ j. omega arith))
      (trace_run (file_step file) (tiled 0 []) (λ (s : SoFar). length file - s.place) falls t)

  -- Every refusal names a place within the file, and within the largest file that is taken.
  abbrev pub Placed : Refusal → Type 0
  Placed f = (f.place.0 ≤ length file) × (f.place.0 ≤ largest)

  outcome_placed : {f : Refusal} → Whole (refused f) → Placed f
  outcome_placed (too_long h) = omega arith
  outcome_placed (empty h) = omega arith
  outcome_placed (read h i t) = omega (arith, tiles_place t)

  pub check_placed : {f : Refusal} → check file ≡ Err f → Placed f
  check_placed {f} = by (tiling_of file) whole
    where
      by : (o : InFile) → Whole o → checked o ≡ Err f → Placed f
      by (tiled m fields) w h = apart cc
      by (refused g) w h = let same : g ≡ f = cc in subst Placed same (outcome_placed w)
