-- `skeptolyr::skeptolyr_describe` meets its contract: the numbers are put whole, and a refusal puts none.
use mathlib.Core.Path.{◌≡◌, sym, ap, ◌∙◌}
use native.Mathlib.Nat.{zero-add}
use native.Mathlib.Omega.{arith}
use lib.ListN.{length}
use Rattle.question.specs.Judge.{Asks, judge}
use Rattle.question.proofs.Laws.{judge_placed, judged_numbers}
use Rattle.question_numbers.specs.Numbers.{numbers_of}
use Rattle.question_numbers.proofs.Held.{described_held}
use Rattle.skeptolyr.specs.Codes.{numbers_code, numbers_left, described_as}
use Rattle.skeptolyr.proofs.skeptolyr_describe.Goals.{In-Ok}
use Rattle.skeptolyr.proofs.skeptolyr_describe.Goals as goal
use Rattle.std.specs.Prelude.{Ok}

-- The question is judged, and this is the field's description.
said : (c : In-Ok) →
    let a = c.args in
    judge a.file.now a.k (Asks.Numbers (length a.numbers.now)) ≡ Ok c.in-Ok.description
said c = sym c.judge_numbers.ensures ∙ c.in-Ok.is

pub put_description-requires : goal.put_description-requires
put_description-requires c =
    let a = c.args in
    let answered = judged_numbers a.file.now a.k (length a.numbers.now) (said (goal.at.put_description-requires c).In-Ok) in
    (answered.1, described_held a.file.now a.k answered.0)

pub code_of-requires : goal.code_of-requires
code_of-requires c =
    let a = c.args in
    omega (arith, judge_placed a.file.now a.k (Asks.Numbers (length a.numbers.now)) (sym c.judge_numbers.ensures ∙ c.in-Err.is))

pub returns-in-Ok : goal.returns-in-Ok
returns-in-Ok c =
    let a = c.args in
    let put = c.put_description.ensures in
    let is = sym (said (goal.at.returns-in-Ok c).In-Ok) in
    record { value = put.1 ∙ zero-add (length (numbers_of c.in-Ok.description)) ∙ ap (λ x. numbers_code (described_as x)) is; numbers_after = put.0 ∙ ap (λ x. numbers_left a.numbers.now (described_as x)) is }

pub returns-in-Err : goal.returns-in-Err
returns-in-Err c =
    let a = c.args in
    let is = sym (sym c.judge_numbers.ensures ∙ c.in-Err.is) in
    record { value = c.code_of.ensures ∙ ap (λ x. numbers_code (described_as x)) is; numbers_after = ap (λ x. numbers_left a.numbers.now (described_as x)) is }
