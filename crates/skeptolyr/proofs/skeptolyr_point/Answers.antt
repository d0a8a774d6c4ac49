-- `skeptolyr::skeptolyr_point` meets its contract: an answer has an element, which becomes the value or +0, and a refusal writes nothing.
use mathlib.Core.List.{List, [], ◌∷◌}
use mathlib.Core.Path.{◌≡◌, refl, sym, ap, subst, ◌∙◌}
use Prim.Native.Nat.{ℕ, ◌≤◌}
use native.Mathlib.Omega.{arith}
use lib.Ieee.{Float, of_bits}
use lib.ListN.{length, set}
use Rattle.laws_rows.specs.Rows.{laid}
use Rattle.question_point.specs.Point.{point_into}
use Rattle.question_point.proofs.Laws.{Answerable, point_answerable}
use Rattle.skeptolyr.specs.Codes.{point_code, point_left}
use Rattle.skeptolyr.proofs.skeptolyr_point.Goals.{After-point_into}
use Rattle.skeptolyr.proofs.skeptolyr_point.Goals as goal
use Rattle.std.specs.Prelude.{Option, Result, Ok}
use Rattle.refusals.specs.declared.Refusal.{Refusal}

-- The first element of a run is set.
first_set : (run : List Float) (v : Float) → 1 ≤ length run → set run 0 v ≡ laid run 0 (v ∷ [])
first_set [] v some = absurd (omega arith)
first_set (x ∷ rest) v some = refl

-- What is known of an answer.
answerable : (c : After-point_into) {a : Result (Option Float) Refusal} → c.point_into.result ≡ a → Answerable (length c.args.value.now) a
answerable c is =
    let a = c.args in
    subst (Answerable (length a.value.now)) (sym c.point_into.ensures ∙ is) (point_answerable a.file.now a.k a.n (length a.value.now))

-- The code and the run of an answer.
answers : (c : After-point_into) {p : Result (Option Float) Refusal} {code : ℕ} {left : List Float} →
    let a = c.args in
    c.point_into.result ≡ p → code ≡ point_code p → left ≡ point_left a.value.now p →
    (code ≡ point_code (point_into a.file.now a.k a.n (length a.value.now))) × (left ≡ point_left a.value.now (point_into a.file.now a.k a.n (length a.value.now)))
answers c is code left =
    let a = c.args in
    let same = sym is ∙ c.point_into.ensures in
    (code ∙ ap point_code same, left ∙ ap (point_left a.value.now) same)

pub bounds-value-0 : goal.bounds-value-0
bounds-value-0 c = omega (arith, answerable (goal.at.bounds-value-0 c).After-point_into (c.in-Ok-Some.is ∙ ap Ok c.in-Ok-Some.field-0-is))

pub bounds-value-0-in-Ok-None : goal.bounds-value-0-in-Ok-None
bounds-value-0-in-Ok-None c = omega (arith, answerable (goal.at.bounds-value-0-in-Ok-None c).After-point_into (c.in-Ok-None.is ∙ ap Ok c.in-Ok-None.field-0-is))

pub code_of-requires : goal.code_of-requires
code_of-requires c = omega (arith, answerable (goal.at.code_of-requires c).After-point_into c.in-Err.is)

pub returns-in-Ok-Some : goal.returns-in-Ok-Some
returns-in-Ok-Some c =
    let is = c.in-Ok-Some.is ∙ ap Ok c.in-Ok-Some.field-0-is in
    let answer = answers (goal.at.returns-in-Ok-Some c).After-point_into is refl (first_set c.args.value.now c.in-Ok-Some.double (answerable (goal.at.returns-in-Ok-Some c).After-point_into is)) in
    record { value = answer.0; value_after = answer.1 }

pub returns-in-Ok-None : goal.returns-in-Ok-None
unfolding of_bits
returns-in-Ok-None c =
    let is = c.in-Ok-None.is ∙ ap Ok c.in-Ok-None.field-0-is in
    let answer = answers (goal.at.returns-in-Ok-None c).After-point_into is refl (first_set c.args.value.now _ (answerable (goal.at.returns-in-Ok-None c).After-point_into is)) in
    record { value = answer.0; value_after = answer.1 }

pub returns-in-Err : goal.returns-in-Err
returns-in-Err c =
    let answer = answers (goal.at.returns-in-Err c).After-point_into c.in-Err.is c.code_of.ensures refl in
    record { value = answer.0; value_after = answer.1 }
