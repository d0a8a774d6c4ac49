-- The proof of what is said of one point alone: it is told by its own integer and those before it, and it agrees with decode.
use mathlib.Core.Path.{◌≡◌, refl, sym, ap, subst, ◌∙◌}
use mathlib.Core.Bool.{true, false}
use mathlib.Core.List.{List}
use Prim.Native.Nat.{ℕ, suc, ◌≤◌, ◌<◌}
use native.Mathlib.Omega.{arith}
use borrow.Author.Tests.{leb-true, eqb-true, eqb-false}
use lib.Dec.{eqb}
use lib.IntN.{ℤ, pos, negsuc, nat_abs}
use lib.Ieee.{Float, fin}
use Rattle.octets.proofs.Cases.{apart, split}
use Rattle.refusals.specs.declared.Refusal.{Refusal}
use Rattle.doubles.specs.Doubles.{is_in_range, value_of}
use Rattle.section_3_geometry.specs.Geometry.{points_of}
use Rattle.values_integers.specs.Integers.{are_in_range}
use Rattle.values_integers.proofs.Range.{in_range_all, in_range_one}
use Rattle.question.specs.declared.Description.{Description}
use Rattle.question.specs.Describe.{describe}
use Rattle.question.specs.Judge.{integer_of}
use Rattle.question_place.proofs.Laws.{point_taken}
use Rattle.question_decode.specs.Decoding.{present_of, rank_of}
use Rattle.question_decode.proofs.Laws.{one_or_zero}
use Rattle.question_point.specs.Point.{point_length, pointed_at, point_if, pointed_by, point}
use Rattle.question_point.proofs.Laws.{told_missing, told_value_lem, told_out}
use Rattle.theorems_demands.specs.Alone.{Present, UpToOwn, Alone, Agrees, both_present, both_missing}
use Rattle.std.specs.Prelude.{Option, Some, None, Result, Ok, Err}

-- An integer in its range is a number without a sign, which it is by its size.
pub own_size : (z : ℤ) → is_in_range z ≡ true → (z ≡ pos (nat_abs z)) × (nat_abs z ≤ 2147483647)
own_size (pos x) e = (refl, leb-true x 2147483647 e)
own_size (negsuc x) e = apart cc

-- Each answer is of one kind alone, and a value is one alone.
missing_value : {A : Type 0} {v : Float} → ◌≡◌ {A = Result (Option Float) Refusal} (Ok None) (Ok (Some v)) → A
missing_value e = apart cc

missing_refused : {A : Type 0} {r : Refusal} → ◌≡◌ {A = Result (Option Float) Refusal} (Ok None) (Err r) → A
missing_refused e = apart cc

value_refused : {A : Type 0} {v : Float} {r : Refusal} → ◌≡◌ {A = Result (Option Float) Refusal} (Ok (Some v)) (Err r) → A
value_refused e = apart cc

one_value : {v w : Float} → ◌≡◌ {A = Result (Option Float) Refusal} (Ok (Some v)) (Ok (Some w)) → v ≡ w
one_value e = cc

module _ (file : List ℕ) (d : Description) (n : ℕ) where
  abbrev in_range : Type 0
  in_range = are_in_range (integer_of file d) (suc (rank_of file d n)) ≡ true

  -- X is in its range up to the point's own.
  range_up : in_range → UpToOwn file d n
  range_up all j h = in_range_one (integer_of file d) (suc (rank_of file d n)) all (omega arith)

  up_range : UpToOwn file d n → in_range
  up_range own = in_range_all (integer_of file d) (suc (rank_of file d n)) (λ j h. own j (omega arith))

  range_fails : are_in_range (integer_of file d) (suc (rank_of file d n)) ≡ false → UpToOwn file d n → ⊥
  range_fails fails own = apart (cc (up_range own))

  -- The value that is told of a point that is present.
  abbrev told_value : Float
  told_value = value_of d.representation.r d.representation.e d.representation.d (nat_abs (integer_of file d (rank_of file d n)))

  is_told : present_of file d n ≡ 1 → in_range → pointed_at file d n ≡ Ok (Some told_value)
  unfolding value_of
  is_told present all = told_value_lem file d n present all

  is_present : in_range → Present file d n told_value
  is_present all =
      let size = own_size (integer_of file d (rank_of file d n)) (range_up all (rank_of file d n) (omega arith)) in
      record { x = nat_abs (integer_of file d (rank_of file d n)); standard = size.0; in_range = size.1; double = refl }

  -- The three cases.
  alone_missing : present_of file d n ≡ 0 → Alone file d n (pointed_at file d n)
  alone_missing none =
      record {
        missing = (λ _. none, λ _. told_missing file d n none);
        stands = λ one. absurd (omega arith);
        refused = λ one. absurd (omega arith);
        value = λ v e. missing_value (sym (told_missing file d n none) ∙ e);
      }

  alone_told : present_of file d n ≡ 1 → in_range → Alone file d n (pointed_at file d n)
  alone_told one all =
      let told = is_told one all in
      record {
        missing = (λ e. missing_value (sym e ∙ told), λ none. absurd (omega arith));
        stands = λ _. (λ _. range_up all, λ _. (told_value, told));
        refused = λ _. (λ e. value_refused (sym told ∙ e), λ never. absurd (never (range_up all)));
        value = λ v e. subst (Present file d n) (one_value (sym told ∙ e)) (is_present all);
      }

  alone_out : present_of file d n ≡ 1 → are_in_range (integer_of file d) (suc (rank_of file d n)) ≡ false → Alone file d n (pointed_at file d n)
  alone_out one fails =
      let told = told_out file d n one fails in
      record {
        missing = (λ e. missing_refused (sym e ∙ told), λ none. absurd (omega arith));
        stands = λ _. (λ given. value_refused (sym given.1 ∙ told), λ own. absurd (range_fails fails own));
        refused = λ _. (λ _. range_fails fails, λ _. told);
        value = λ v e. value_refused (sym e ∙ told);
      }

  pub alone_at : Alone file d n (pointed_at file d n)
  alone_at =
      split (eqb (present_of file d n) 1)
      (λ present.
      let one = eqb-true (present_of file d n) 1 present in
      split (are_in_range (integer_of file d) (suc (rank_of file d n))) (alone_told one) (alone_out one))
      (λ missing.
      let none : present_of file d n ≡ 0 = omega (arith, eqb-false (present_of file d n) 1 missing, one_or_zero file d.presence (points_of d.grid) n) in
      alone_missing none)

-- A point that the field has is told so.
module _ (file : List ℕ) (k n : ℕ) {d : Description} (said : describe file k ≡ Ok d) (below : n < points_of d.grid) where
  pub point_at : point file k n ≡ pointed_at file d n
  point_at = ap (pointed_by file n point_length) said ∙ ap (point_if file d n) (point_taken n point_length point_length d.grid below (omega arith))

  pub told_alone : Alone file d n (point file k n)
  told_alone = subst (Alone file d n) (sym point_at) (alone_at file d n)

  -- It agrees with the elements that are written for it where every integer of the field is in its range.
  pub agreed : {written : Float} {mark : ℕ} → mark ≡ present_of file d n → (mark ≡ 0 → written ≡ fin false 0 (pos 0)) → (mark ≡ 1 → Present file d n written) →
      (present_of file d n ≡ 1 → UpToOwn file d n) → Agrees (point file k n) written mark
  agreed {written} {mark} marked missing present own =
      split (eqb (present_of file d n) 1)
      (λ is.
      let one = eqb-true (present_of file d n) 1 is in
      let p = present (marked ∙ one) in
      let told = (told_alone.stands one).1 (own one) in
      let q = told_alone.value told.0 told.1 in
      let x : p.x ≡ q.x = one_integer (sym p.standard ∙ q.standard) in
      let same : told.0 ≡ written = q.double ∙ ap (value_of d.representation.r d.representation.e d.representation.d) (sym x) ∙ sym p.double in
      subst (λ (m : ℕ). Agrees (point file k n) written m) (sym (marked ∙ one)) (subst (λ (a : Result (Option Float) Refusal). Agrees a written 1) (sym (told.1 ∙ ap (λ (v : Float). Ok (Some v)) same)) both_present))
      (λ is.
      let none : present_of file d n ≡ 0 = omega (arith, eqb-false (present_of file d n) 1 is, one_or_zero file d.presence (points_of d.grid) n) in
      subst (λ (m : ℕ). Agrees (point file k n) written m) (sym (marked ∙ none))
      (subst (λ (v : Float). Agrees (point file k n) v 0) (sym (missing (marked ∙ none))) (subst (λ (a : Result (Option Float) Refusal). Agrees a (fin false 0 (pos 0)) 0) (sym (told_alone.missing.1 none)) both_missing)))
    where
      one_integer : {a b : ℕ} → pos a ≡ pos b → a ≡ b
      one_integer e = cc
