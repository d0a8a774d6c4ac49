-- The theorems `refuses_so` and `check_refuses`: a file is refused by its first fault in the rules' order, and by no other.
use Prim.Native.Nat.{ℕ, ◌+◌, ◌≤◌}
use mathlib.Core.Path.{◌≡◌, refl, ap, subst, ◌∙◌}
use mathlib.Core.List.{List, [], ◌++◌}
use mathlib.Core.Logic.{◌↔◌}
use lib.ListN.{length}
use Rattle.std.specs.Prelude.{Ok, Err}
use Rattle.octets.proofs.Cases.{apart}
use Rattle.octets.specs.Places.{at}
use Rattle.refusals.specs.declared.Refusal.{Refusal}
use Rattle.laws_machine.specs.Machine.{go, stop, Trace, halts, steps}
use Rattle.tiling_sections.specs.declared.Located.{Located}
use Rattle.tiling_sections.specs.Walk.{Walking, InMessage, failed, finished_by, took, stepped, entering}
use Rattle.tiling_sections.specs.Stands as Stands
use Rattle.tiling_sections.proofs.Laws as walk
use Rattle.tiling_sections.proofs.Laws.{stands_only, Walks, walks, walk_trace, trace_walk}
use Rattle.tiling.specs.Heads.{Heads}
use Rattle.tiling.specs.Tiling.{largest, message, met, SoFar, InFile, tiled, refused, file_step, tiling_of, checked, check}
use Rattle.tiling.proofs.Laws as reading
use Rattle.tiling.proofs.Laws.{Entered, enters, enters_only, begun, step_met, Reads, reads, Whole, whole, whole_only}
use Rattle.theorems_grammar.specs.Refusals as Refusals
use Rattle.theorems_grammar.specs.Refusals.{Before, Passed, Faulty, Refused}
use Rattle.theorems_grammar.proofs.Complete.{walking_at, Goes, section_goes, message_goes}
use Rattle.theorems_grammar.proofs.Sound.{message_sound}

module _ {file : List ℕ} where
  -- The walk steps along the sections that are passed of the message at p.
  passes : (p : ℕ) {e q n : ℕ} {t : InMessage} → Passed file (p + 16) e q n → ((l : Located) (fs : List Located) → Goes file e (walking_at q n l fs) t) → Goes file e (entering p) t
  passes p Refusals.Passed.start on = on (record { starts = (entering p).starts; bitmap = (entering p).bitmap }) []
  passes p {e} (Refusals.Passed.after {a} {b} {n} {m} before section inside allowed) on =
      passes p before
      (λ l fs.
      let w : Walking = walking_at a n l fs in
      section_goes file e section inside allowed (on (finished_by file w m b) (took file w m b).fields))

  -- The walk that passes sections of the message at p and then meets a fault.
  met_fault : {p e : ℕ} {w : Walking} {r : Refusal} → Heads file p (Ok (at e)) → Passed file (p + 16) e w.place w.after → Goes file e w (failed r) → Faulty file p r
  met_fault {p} {e} {w} heads before (halts h) = by (subst (Walks file e w) h (walks file e w))
    where
      by : {r : Refusal} → Walks file e w (stop (failed r)) → Faulty file p r
      by (walk.bad stands) = Refusals.Faulty.section heads before stands
  met_fault {p} {e} {w} heads before (steps h t) = by (subst (Walks file e w) h (walks file e w)) (λ after. met_fault heads after t)
    where
      by : {v : Walking} {r : Refusal} → Walks file e w (go v) → (Passed file (p + 16) e v.place v.after → Faulty file p r) → Faulty file p r
      by (walk.on (Stands.next f i)) again = again (Refusals.Passed.after before (record { least = f.least; ends = refl; numbered = refl }) f.room i)

  message_faulty : {p : ℕ} {r : Refusal} → message file p ≡ failed r → Faulty file p r
  message_faulty {p} h = by (subst (Entered file p) h (enters file p))
    where
      by : {r : Refusal} → Entered file p (failed r) → Faulty file p r
      by (reading.headless heads) = Refusals.Faulty.heading heads
      by (reading.walked {e} heads h) = met_fault heads Refusals.Passed.start (subst (Goes file e (entering p)) h (walk_trace file e (entering p)))

  faulty_message : {p : ℕ} {r : Refusal} → Faulty file p r → message file p ≡ failed r
  faulty_message {p} (Refusals.Faulty.heading heads) = enters_only file p (reading.headless heads)
  faulty_message {p} (Refusals.Faulty.section {e} {q} {n} heads before stands) =
      enters_only file p
      (reading.walked heads
      (trace_walk file e
      (passes p before (λ l fs. halts (ap (stepped file e (walking_at q n l fs)) (stands_only file q e n stands))))))

  -- The reading steps along the messages before p.
  comes : {p : ℕ} {o : InFile} → Before file p → ((m : ℕ) (fs : List Located) → Trace (file_step file) (record { place = p; messages = m; fields = fs }) o) → Trace (file_step file) begun o
  comes Refusals.Before.start on = on 0 []
  comes (Refusals.Before.after {a} {fs} before d) on = comes before (λ m gs. message_goes (record { place = a; messages = m; fields = gs }) d (on (m + 1) (gs ++ fs)))

  refused_complete : {r : Refusal} → Refused file r → tiling_of file ≡ refused r
  refused_complete (Refusals.Refused.too_long h) = whole_only file (reading.too_long h)
  refused_complete (Refusals.Refused.empty h) = whole_only file (reading.empty h)
  refused_complete (Refusals.Refused.message {p} some few before inside d) =
      whole_only file
      (reading.read some few
      (comes before
      (λ m fs.
      let r : SoFar = record { place = p; messages = m; fields = fs } in
      halts (step_met file r inside ∙ ap (met r) (faulty_message d)))))

  -- The reading that passes messages and then meets a fault.
  met_refusal : {r : SoFar} {f : Refusal} → 1 ≤ length file → length file ≤ largest → Before file r.place → Trace (file_step file) r (refused f) → Refused file f
  met_refusal {r} some few before (halts h) = by (subst (Reads file r) h (reads file r))
    where
      by : {f : Refusal} → Reads file r (stop (refused f)) → Refused file f
      by (reading.bad inside h) = Refusals.Refused.message some few before inside (message_faulty h)
  met_refusal {r} some few before (steps h t) = by (subst (Reads file r) h (reads file r)) (λ after. met_refusal some few after t)
    where
      by : {v : SoFar} {f : Refusal} → Reads file r (go v) → (Before file v.place → Refused file f) → Refused file f
      by (reading.on inside h) again = again (Refusals.Before.after before (message_sound h))

  refused_sound : {r : Refusal} → Whole file (refused r) → Refused file r
  refused_sound (reading.too_long h) = Refusals.Refused.too_long h
  refused_sound (reading.empty h) = Refusals.Refused.empty h
  refused_sound (reading.read some few t) = met_refusal some few Refusals.Before.start t

module _ (file : List ℕ) where
  -- The reading finds the fault r exactly where it is the first of the file.
  pub refuses_so : (r : Refusal) → (tiling_of file ≡ refused r) ↔ Refused file r
  refuses_so r = (λ h. refused_sound (subst (Whole file) h (whole file)), refused_complete)

  -- The question check refuses a file by r exactly there.
  pub check_refuses : (r : Refusal) → (check file ≡ Err r) ↔ Refused file r
  check_refuses r = (by (tiling_of file) refl, λ d. ap checked (refused_complete d))
    where
      by : (o : InFile) → tiling_of file ≡ o → checked o ≡ Err r → Refused file r
      by (tiled m fs) is h = apart cc
      by (refused f) is h = let same : f ≡ r = cc in subst (Refused file) same ((refuses_so f).0 is)
