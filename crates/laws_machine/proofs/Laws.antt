-- The laws of a run: it takes the machine's steps one by one, keeps what each step keeps, and ends where the steps lead.
use Prim.Native.Nat.{ℕ, zero, suc, ◌<◌}
use mathlib.Core.Path.{◌≡◌, refl, sym, ◌∙◌}
use native.Mathlib.Omega.{arith}
use Rattle.laws_machine.specs.Machine.{Next, go, stop, run_for, run, Trace, halts, steps}

module _ {S A : Type 0} (step : S → Next S A) (none : A) (left : S → ℕ) (falls : (s t : S) → step s ≡ go t → left t < left s) where
  for_stop : (f : ℕ) (s : S) (a : A) → step s ≡ stop a → run_for step none (suc f) s ≡ a
  unfolding run_for
  for_stop f s a e = rw e

  for_go : (f : ℕ) (s t : S) → step s ≡ go t → run_for step none (suc f) s ≡ run_for step none f t
  unfolding run_for
  for_go f s t e = rw e

  -- By cases on the next step, with what it leaves.
  by_step : {B : Type 0} (s : S) → ((a : A) → step s ≡ stop a → B) → ((t : S) → step s ≡ go t → left t < left s → B) → B
  by_step {B} s stops goes = by (step s) refl
    where
      by : (n : Next S A) → step s ≡ n → B
      by (stop a) e = stops a e
      by (go t) e = goes t e (falls s t e)

  -- More steps than the measure allows change nothing.
  enough : (f g : ℕ) (s : S) → left s < f → left s < g → run_for step none f s ≡ run_for step none g s
  enough zero g s h k = absurd (omega arith)
  enough (suc f) zero s h k = absurd (omega arith)
  enough (suc f) (suc g) s h k =
      by_step s (λ a e. for_stop f s a e ∙ sym (for_stop g s a e)) (λ t e l. for_go f s t e ∙ enough f g t (omega arith) (omega arith) ∙ sym (for_go g s t e))

  pub run_stop : (s : S) (a : A) → step s ≡ stop a → run step none left s ≡ a
  unfolding run
  run_stop s a e = for_stop (left s) s a e

  pub run_go : (s t : S) → step s ≡ go t → run step none left s ≡ run step none left t
  unfolding run
  run_go s t e = let l : left t < left s = falls s t e in for_go (left s) s t e ∙ enough (left s) (suc (left t)) t l (omega arith)

  for_gives : (P : S → Type 0) (Q : A → Type 0) → ((s t : S) → P s → step s ≡ go t → P t) → ((s : S) (a : A) → P s → step s ≡ stop a → Q a) → (f : ℕ) (s : S) → left s < f → P s → Q (run_for step none f s)
  for_gives P Q keep end zero s h k = absurd (omega arith)
  for_gives P Q keep end (suc f) s h k =
      by_step s (λ a e. rw (for_stop f s a e) (end s a k e)) (λ t e l. rw (for_go f s t e) (for_gives P Q keep end f t (omega arith) (keep s t k e)))

  -- Where each step keeps P, and the last gives Q, the run gives Q.
  pub run_gives : (P : S → Type 0) (Q : A → Type 0) → ((s t : S) → P s → step s ≡ go t → P t) → ((s : S) (a : A) → P s → step s ≡ stop a → Q a) → (s : S) → P s → Q (run step none left s)
  unfolding run
  run_gives P Q keep end s k = for_gives P Q keep end (suc (left s)) s (omega arith) k

  for_trace : (f : ℕ) (s : S) → left s < f → Trace step s (run_for step none f s)
  for_trace zero s h = absurd (omega arith)
  for_trace (suc f) s h = by_step s (λ a e. rw (for_stop f s a e) (halts e)) (λ t e l. rw (for_go f s t e) (steps e (for_trace f t (omega arith))))

  -- A run's answer is the one that its steps lead to, and no other.
  pub run_trace : (s : S) → Trace step s (run step none left s)
  unfolding run
  run_trace s = for_trace (suc (left s)) s (omega arith)

  pub trace_run : {s : S} {a : A} → Trace step s a → run step none left s ≡ a
  trace_run (halts e) = run_stop _ _ e
  trace_run (steps e t) = run_go _ _ e ∙ trace_run t
