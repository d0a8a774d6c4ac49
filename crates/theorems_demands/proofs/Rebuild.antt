-- The proof of what is said of the question that rebuilds one double.
use Prim.Native.Nat.{ℕ, zero, suc}
use mathlib.Core.Path.{◌≡◌, refl, sym, ap, subst, ◌∙◌}
use mathlib.Core.Bool.{Bool, true, false, ◌&&◌}
use borrow.Author.Tests.{le-leb}
use lib.Dec.{T, leb}
use lib.IntN.{pos}
use lib.Ieee.{Float, binary32, of_bits}
use lib.Ieee.Scale.{finite}
use lib.Ieee.Fits.{and_r}
use Rattle.octets.specs.declared.Signed.{Signed}
use Rattle.octets.specs.Numbers.{whole, whole_of}
use Rattle.octets.proofs.Cases.{apart, split}
use Rattle.refusals.specs.declared.Refusal.{Refusal}
use Rattle.refusals.specs.declared.Why as declaredWhy
use Rattle.refusals.specs.declared.Why.TheVariants as Why
use Rattle.refusals.specs.Refusals.{refusal, number_of}
use Rattle.refusals.proofs.Laws.{same_number}
use Rattle.doubles.specs.Doubles.{value_of, is_in_range, is_rebuildable, not_rebuildable, rebuild_one}
use Rattle.theorems_bound.specs.Bound.{exact_s, Meets}
use Rattle.theorems_bound.proofs.Meets.{rebuilt_meets, answered_in_limits}
use Rattle.theorems_demands.specs.Questions.{refused, refused_by}
use Rattle.theorems_demands.specs.Rebuild.{Within, Rebuilds}
use Rattle.theorems_demands.proofs.Demand3.{one_integer}
use Rattle.std.specs.Prelude.{Result, Ok, Err}
use Rattle.question.proofs.Laws.{one_answer}

-- A double is no refusal, and each answer is one alone.
clash_rebuilt : {A : Type 0} {v : Float} {f : Refusal} → ◌≡◌ {A = Result Float Refusal} (Ok v) (Err f) → A
clash_rebuilt e = apart cc

one_refused : {f g : Refusal} → ◌≡◌ {A = Result Float Refusal} (Err f) (Err g) → f ≡ g
one_refused e = cc

-- A refusal that is told as 19 at place 0 is the one of this question.
is_nineteen : (f : Refusal) → refused_by f ≡ refused 19 0 → f ≡ not_rebuildable
is_nineteen f e =
    let number : number_of f.why ≡ 19 = cc in
    let place : f.place.0 ≡ 0 = cc in
    ap (λ (why : declaredWhy.Why). refusal why f.place.0) (same_number f.why Why.NotRebuildable number) ∙ ap (refusal Why.NotRebuildable) place

-- A test that holds is true.
is_true : (b : Bool) → T b → b ≡ true
is_true true t = refl
is_true false t = absurd t

-- A number in its range, with its sign, is its own size.
sized : (negative : Bool) (size : ℕ) (n : ℕ) → whole_of negative size ≡ pos n → size ≡ n
sized false size n e = one_integer e
sized true zero n e = one_integer e
sized true (suc size) n e = apart cc

whole_size : (negative : Bool) (size : ℕ) → T (is_in_range (whole_of negative size)) → whole_of negative size ≡ pos size
whole_size false size t = refl
whole_size true zero t = refl
whole_size true (suc size) t = absurd t

module _ (r : ℕ) (e d x : Signed) where
  -- Within the limits the test of 19 is passed, and only there.
  passed : (n : ℕ) → Within r e d x n → is_rebuildable r e d x ≡ true
  passed n within =
      rw (is_true (finite (of_bits binary32 r)) within.1.scaled.finite_r, le-leb _ _ within.1.scaled.e127, le-leb _ _ within.1.scaled.d22, within.0)
      (le-leb n 2147483647 within.1.packed)

  within_of : is_rebuildable r e d x ≡ true → Within r e d x x.size
  within_of test = let holds : T (is_rebuildable r e d x) = subst T (sym test) tt in (whole_size x.negative x.size (and_r (finite (of_bits binary32 r) && leb e.size 127 && leb d.size 22) (is_in_range (whole x)) holds), answered_in_limits r e d x holds)

  pub rebuild_meets : Rebuilds r e d x
  rebuild_meets =
      record {
        answers = λ v. (answered v, λ h. rw (passed h.0 h.1) (ap Ok (ap (value_of r e d) (sized x.negative x.size h.0 h.1.0) ∙ sym h.2)));
        meets = λ v n given is. let h = answered v given in let same : h.0 ≡ n = one_integer (sym h.1.0 ∙ is) in
            subst (λ (m : ℕ). Meets d.negative d.size (exact_s r e m) v) same (subst (Meets _ _ _) (sym h.2) (rebuilt_meets r e d h.0 h.1.1));
        refuses = λ f. (refuses_by f, λ h. by_test h.1 ∙ ap Err (sym (is_nineteen f h.0)));
      }
    where
      answered : (v : Float) → rebuild_one r e d x ≡ Ok v → (n : ℕ) × Within r e d x n × (v ≡ value_of r e d n)
      answered v given =
          split (is_rebuildable r e d x)
          (λ holds. (x.size, within_of holds, sym (one_answer (rw holds at given))))
          (λ fails. clash_rebuilt (sym (rw fails at given)))

      by_test : ((n : ℕ) → Within r e d x n → ⊥) → rebuild_one r e d x ≡ Err not_rebuildable
      by_test none = split (is_rebuildable r e d x) (λ holds. absurd (none x.size (within_of holds))) (λ fails. rw fails)

      refuses_by : (f : Refusal) → rebuild_one r e d x ≡ Err f → (refused_by f ≡ refused 19 0) × ((n : ℕ) → Within r e d x n → ⊥)
      refuses_by f given =
          split (is_rebuildable r e d x)
          (λ holds. clash_rebuilt (rw holds at given))
          (λ fails. (ap refused_by (sym (one_refused (rw fails at given))), λ n within. let holds = passed n within in apart cc))
