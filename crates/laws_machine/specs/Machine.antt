-- RULES, "Tiling a file", goes step by step: a machine that goes on or stops at each step, run until it stops. A measure of what is left, which falls
-- with each step, bounds the steps.
use Rattle.std.specs.Prelude.{ℕ, zero, suc, ◌≡◌}

pub data Next (S A : Type 0) : Type 0 where
  go : S → Next S A
  stop : A → Next S A

abbrev pub onward : {S A : Type 0} → Next S A → (S → A) → A
onward (go s) k = k s
onward (stop a) k = a

-- At most so many steps, and `none` where they do not suffice.
unfoldable pub run_for : {S A : Type 0} → (S → Next S A) → A → ℕ → S → A
run_for step none zero s = none
run_for step none (suc f) s = onward (step s) (λ t. run_for step none f t)

-- As many steps as the measure `left` allows.
unfoldable pub run : {S A : Type 0} → (S → Next S A) → A → (S → ℕ) → S → A
run step none left s = run_for step none (suc (left s)) s

-- The steps that lead from a state to an answer.
pub data Trace {S A : Type 0} (step : S → Next S A) : S → A → Type 0 where
  halts : {s : S} {a : A} → step s ≡ stop a → Trace step s a
  steps : {s t : S} {a : A} → step s ≡ go t → Trace step t a → Trace step s a
