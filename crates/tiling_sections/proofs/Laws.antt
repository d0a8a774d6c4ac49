-- The laws of the sections: `Stands` says exactly what `section_at` computes, the walk takes one section after another, and all that it gives
-- lies between the start and the end of the sections.
use Prim.Native.Nat.{ℕ, ◌+◌, ◌-◌, ◌*◌, ◌≤◌, ◌<◌}
use mathlib.Core.Path.{◌≡◌, ap, subst, ◌∙◌}
use mathlib.Core.List.{List, [], ◌∷◌, ◌++◌}
use mathlib.Core.Bool.{true, cond}
use native.Mathlib.Omega.{arith}
use borrow.Author.Tests.{eq-eqb, ne_eqb, eqb-true, eqb-false, le-ltb, ltb-true, ltb-false, leb-true, leb-false}
use lib.Dec.{ltb, leb, eqb}
use lib.ListN.{length, length-append}
use Rattle.std.specs.Prelude.{Option, Some, None, Result, Ok, Err}
use Rattle.octets.proofs.Cases.{apart, split}
use Rattle.octets.specs.Places.{at}
use Rattle.section.specs.Sections.{length_at, kind_at}
use Rattle.refusals.specs.declared.Why.{Why}
use Rattle.refusals.specs.Refusals.{refusal}
use Rattle.laws_machine.specs.Machine.{Next, go, stop, Trace}
use Rattle.laws_machine.proofs.Laws.{run_go, run_stop, run_gives, run_trace, trace_run}
use Rattle.tiling_sections.specs.declared.Located.{Located}
use Rattle.tiling_sections.specs.declared.Standing.{Standing}
use Rattle.tiling_sections.specs.Walk.{follows, standing, section_at, Walking, InMessage, passed, failed, finished_by, took, stepped, section_step, walk_from, entering, sections}
use Rattle.tiling_sections.specs.Stands.{Fits, Stands, ends, unfinished, misfit, strange, next}

module _ (file : List ℕ) (p e after : ℕ) where
  -- A section fits or it does not.
  fitting : {A : Type 0} → (Fits file p e → A) → ((Fits file p e → ⊥) → A) → A
  fitting fits misfits =
      split (leb 5 (length_at file p))
      (λ i.
      split (leb (p + length_at file p) e) (λ j. fits (record { least = leb-true _ _ i; room = leb-true _ _ j })) (λ j. misfits (λ f. omega (arith, leb-false))))
      (λ i. misfits (λ f. omega (arith, leb-false)))

  at_end : e ≤ p → section_at file p e after ≡ cond (eqb after 7) (Ok None) (Err Why.OutOfPlace)
  unfolding section_at
  at_end h = rw (eq-eqb (e - p) 0 (omega arith))

  at_misfit : p < e → (Fits file p e → ⊥) → section_at file p e after ≡ Err Why.BadLength
  unfolding section_at
  at_misfit h misfits =
      rw (ne_eqb (e - p) 0 (λ i. omega arith))
      (split (ltb (e - p) 5) (λ i. rw i)
      (λ i.
      split (ltb (length_at file p) 5) (λ j. rw (i, j))
      (λ j.
      split (ltb (e - p) (length_at file p)) (λ k. rw (i, j, k))
      (λ k. absurd (misfits (record { least = ltb-false _ _ j; room = omega (arith, ltb-false) }))))))

  at_fit : Fits file p e → section_at file p e after ≡ cond (follows after (kind_at file p)) (Ok (Some (standing (kind_at file p) (at (p + length_at file p))))) (Err Why.OutOfPlace)
  unfolding section_at
  at_fit f =
      let room : length_at file p ≤ e - p = omega arith in
      rw (ne_eqb (e - p) 0 (λ i. omega arith), le-ltb (e - p) 5 (omega arith), le-ltb (length_at file p) 5 f.least, le-ltb (e - p) (length_at file p) room)

  -- `Stands` says what `section_at` computes, and nothing else.
  pub stands_only : {s : Result (Option Standing) Why} → Stands file p e after s → section_at file p e after ≡ s
  stands_only (ends h i) = at_end h ∙ rw (eq-eqb after 7 i)
  stands_only (unfinished h i) = at_end h ∙ rw (ne_eqb after 7 i)
  stands_only (misfit h i) = at_misfit h i
  stands_only (strange f i) = at_fit f ∙ rw i
  stands_only (next f i) = at_fit f ∙ rw i

  pub stands : Stands file p e after (section_at file p e after)
  stands =
      split (ltb p e)
      (λ i.
      fitting (λ f. split (follows after (kind_at file p)) (λ j. exactly (next f j)) (λ j. exactly (strange f j))) (λ f. exactly (misfit (ltb-true _ _ i) f)))
      (λ i. split (eqb after 7) (λ j. exactly (ends (ltb-false _ _ i) (eqb-true _ _ j))) (λ j. exactly (unfinished (ltb-false _ _ i) (eqb-false _ _ j))))
    where
      exactly : {s : Result (Option Standing) Why} → Stands file p e after s → Stands file p e after (section_at file p e after)
      exactly s = rw (stands_only s) s

  -- A section takes 5 octets or more, and ends where the sections end or before.
  pub next_within : {s : Standing} → section_at file p e after ≡ Ok (Some s) → (p + 5 ≤ s.next.0) × (s.next.0 ≤ e)
  next_within h = by (rw h at stands)
    where
      by : {s : Standing} → Stands file p e after (Ok (Some s)) → (p + 5 ≤ s.next.0) × (s.next.0 ≤ e)
      by (next f i) = omega arith

module _ (file : List ℕ) (e : ℕ) where
  -- What one step of the walk does, by what stands there.
  pub data Walks (w : Walking) : Next Walking InMessage → Type 0 where
    on : {s : Standing} → Stands file w.place e w.after (Ok (Some s)) → Walks w (go (took file w s.number s.next.0))
    end : Stands file w.place e w.after (Ok None) → Walks w (stop (passed (e + 4) w.fields))
    bad : {why : Why} → Stands file w.place e w.after (Err why) → Walks w (stop (failed (refusal why w.place)))

  pub walks : (w : Walking) → Walks w (section_step file e w)
  walks w = by (section_at file w.place e w.after) (stands file w.place e w.after)
    where
      by : (s : Result (Option Standing) Why) → Stands file w.place e w.after s → Walks w (stepped file e w s)
      by (Ok (Some _)) s = on s
      by (Ok None) s = end s
      by (Err _) s = bad s

  pub falls : (w t : Walking) → section_step file e w ≡ go t → e - t.place < e - w.place
  falls w t h = by (subst (Walks w) h (walks w))
    where
      by : {t : Walking} → Walks w (go t) → e - t.place < e - w.place
      by (on (next f i)) = omega arith

  -- One section of the walk.
  pub walk_on : (w : Walking) (s : Standing) → section_at file w.place e w.after ≡ Ok (Some s) → walk_from file e w ≡ walk_from file e (took file w s.number s.next.0)
  walk_on w s h = run_go (section_step file e) (passed (e + 4) []) (λ (v : Walking). e - v.place) falls w (took file w s.number s.next.0) (ap (stepped file e w) h)

  pub walk_end : (w : Walking) → section_at file w.place e w.after ≡ Ok None → walk_from file e w ≡ passed (e + 4) w.fields
  walk_end w h = run_stop (section_step file e) (passed (e + 4) []) (λ (v : Walking). e - v.place) falls w _ (ap (stepped file e w) h)

  pub walk_bad : (w : Walking) (why : Why) → section_at file w.place e w.after ≡ Err why → walk_from file e w ≡ failed (refusal why w.place)
  walk_bad w why h = run_stop (section_step file e) (passed (e + 4) []) (λ (v : Walking). e - v.place) falls w _ (ap (stepped file e w) h)

  -- The walk's answer is the one that its steps lead to.
  pub walk_trace : (w : Walking) → Trace (section_step file e) w (walk_from file e w)
  walk_trace w = run_trace (section_step file e) (passed (e + 4) []) (λ (v : Walking). e - v.place) falls w

  pub trace_walk : {w : Walking} {t : InMessage} → Trace (section_step file e) w t → walk_from file e w ≡ t
  trace_walk r = trace_run (section_step file e) (passed (e + 4) []) (λ (v : Walking). e - v.place) falls r

-- Which number follows which, case by case.
pub data Follows : ℕ → ℕ → Type 0 where
  first : Follows 0 1
  grid : Follows 1 3
  field : Follows 3 4
  fifth : Follows 4 5
  sixth : Follows 5 6
  seventh : Follows 6 7
  next_grid : Follows 7 3
  next_field : Follows 7 4

pub follows_so : (after n : ℕ) → follows after n ≡ true → Follows after n
follows_so after n h =
    split (eqb after 0) (λ i. is i (only (rw i at h)) first)
    (λ i0.
    split (eqb after 1) (λ i. is i (only (rw (i0, i) at h)) grid)
    (λ i1.
    split (eqb after 3) (λ i. is i (only (rw (i0, i1, i) at h)) field)
    (λ i3.
    split (eqb after 4) (λ i. is i (only (rw (i0, i1, i3, i) at h)) fifth)
    (λ i4.
    split (eqb after 5) (λ i. is i (only (rw (i0, i1, i3, i4, i) at h)) sixth)
    (λ i5.
    split (eqb after 6) (λ i. is i (only (rw (i0, i1, i3, i4, i5, i) at h)) seventh)
    (λ i6.
    split (eqb after 7)
    (λ i.
    split (eqb n 3) (λ j. is i (only j) next_grid) (λ j. is i (only (rw (i0, i1, i3, i4, i5, i6, i, j) at h)) next_field))
    (λ i. apart (cc (rw (i0, i1, i3, i4, i5, i6, i) at h)))))))))
  where
    only : {m : ℕ} → eqb n m ≡ true → n ≡ m
    only = eqb-true n _

    is : {a m : ℕ} → eqb after a ≡ true → n ≡ m → Follows a m → Follows after n
    is i j f = rw (eqb-true after _ i, j) f

-- A message has at most one field for every 20 octets behind its section 0, and a refusal names a place between the start and the end of its
-- sections.
abbrev pub Within : ℕ → ℕ → InMessage → Type 0
Within p e (passed q fields) = (q ≡ e + 4) × (20 * length fields + p + 16 ≤ e)
Within p e (failed r) = (p + 16 ≤ r.place.0) × (r.place.0 ≤ e)

-- The least that the sections of a field take that is not finished, behind a section numbered `after`.
abbrev begun : ℕ → ℕ
begun after = cond (eqb after 4) 5 (cond (eqb after 5) 10 (cond (eqb after 6) 15 0))

module _ (file : List ℕ) (p e : ℕ) where
  abbrev Kept : Walking → Type 0
  Kept w = (20 * length w.fields + begun w.after + p + 16 ≤ w.place) × (w.place ≤ e)

  plain : (count x y a b : ℕ) → y ≤ x + 5 → 20 * count + x + p + 16 ≤ a → a + 5 ≤ b → 20 * count + y + p + 16 ≤ b
  plain count x y a b step h k = omega arith

  finishing : (fields : List Located) (l : Located) (a b : ℕ) → 20 * length fields + 15 + p + 16 ≤ a → a + 5 ≤ b → 20 * length (fields ++ (l ∷ [])) + 0 + p + 16 ≤ b
  finishing fields l a b h k = simp length-append (omega arith)

  kept_fields : (fields : List Located) (l : Located) (after n a b : ℕ) → Follows after n → 20 * length fields + begun after + p + 16 ≤ a → a + 5 ≤ b →
      20 * length (cond (eqb n 7) (fields ++ (l ∷ [])) fields) + begun n + p + 16 ≤ b
  kept_fields fields l _ _ a b first h k = plain (length fields) 0 0 a b (omega arith) h k
  kept_fields fields l _ _ a b grid h k = plain (length fields) 0 0 a b (omega arith) h k
  kept_fields fields l _ _ a b field h k = plain (length fields) 0 5 a b (omega arith) h k
  kept_fields fields l _ _ a b fifth h k = plain (length fields) 5 10 a b (omega arith) h k
  kept_fields fields l _ _ a b sixth h k = plain (length fields) 10 15 a b (omega arith) h k
  kept_fields fields l _ _ a b seventh h k = finishing fields l a b h k
  kept_fields fields l _ _ a b next_grid h k = plain (length fields) 0 0 a b (omega arith) h k
  kept_fields fields l _ _ a b next_field h k = plain (length fields) 0 5 a b (omega arith) h k

  kept_on : (w : Walking) {t : Walking} → Kept w → Walks file e w (go t) → Kept t
  kept_on w k (on (next f i)) =
      let n : ℕ = kind_at file w.place in
      let q : ℕ = w.place + length_at file w.place in
      (kept_fields w.fields (finished_by file w n q) w.after n w.place q (follows_so _ _ i) k.0 (omega arith), f.room)

  kept_stop : (w : Walking) {a : InMessage} → Kept w → Walks file e w (stop a) → Within p e a
  kept_stop w k (end _) = omega arith
  kept_stop w k (bad _) = omega arith

  pub fields_within : p + 16 ≤ e → Within p e (sections file p e)
  fields_within h =
      run_gives (section_step file e) (passed (e + 4) []) (λ (v : Walking). e - v.place) (falls file e) Kept (Within p e)
      (λ w t k i. kept_on w k (subst (Walks file e w) i (walks file e w)))
      (λ w a k i. kept_stop w k (subst (Walks file e w) i (walks file e w)))
      (entering p)
      (omega arith, h)
