-- `skeptolyr::skeptolyr_sheet` meets its contract: the two numbers are put, and a refusal puts none.
use mathlib.Core.Path.{◌≡◌, sym, ap, ◌∙◌}
use native.Mathlib.Omega.{arith}
use lib.ListN.{length}
use Rattle.section_3_geometry.specs.declared.Grid.TheVariants as Grid
use Rattle.question_numbers.proofs.Held.{sheet_held}
use Rattle.question_place.specs.Place.{on_lambert}
use Rattle.question_place.proofs.Laws.{Placeable, judged_lambert, lambert_passes, lambert_placed}
use Rattle.section_3_lambert.proofs.Laws.{taken_measured}
use Rattle.skeptolyr.specs.Codes.{numbers_code, numbers_left, sheet_as}
use Rattle.skeptolyr.proofs.skeptolyr_sheet.Goals.{In-Ok}
use Rattle.skeptolyr.proofs.skeptolyr_sheet.Goals as goal
use Rattle.std.specs.Prelude.{Ok}

-- The question is judged, and this is the field's grid.
said : (c : In-Ok) →
    let a = c.args in
    on_lambert a.file.now a.k a.n (length a.place.now) ≡ Ok c.in-Ok.grid
said c = sym c.on_lambert.ensures ∙ c.in-Ok.is

is_known : (c : In-Ok) →
    let a = c.args in
    Placeable a.file.now a.k a.n (length a.place.now) (Grid.Lambert c.in-Ok.grid)
is_known c = let a = c.args in judged_lambert a.file.now a.k a.n (length a.place.now) (said c)

pub overflow_cast-n : goal.overflow_cast-n
overflow_cast-n c =
    let a = c.args in
    omega (arith, (is_known (goal.at.overflow_cast-n c).In-Ok).below, (lambert_passes a.file.now a.k a.n (length a.place.now) (is_known (goal.at.overflow_cast-n c).In-Ok)).2)

pub sheet_of-lies-requires : goal.sheet_of-lies-requires
sheet_of-lies-requires c =
    let a = c.args in
    let passed = lambert_passes a.file.now a.k a.n (length a.place.now) (is_known (goal.at.sheet_of-lies-requires c).In-Ok) in
    taken_measured _ passed.0 passed.1

pub put_sheet-requires : goal.put_sheet-requires
put_sheet-requires c =
    let a = c.args in
    let passed = lambert_passes a.file.now a.k a.n (length a.place.now) (is_known (goal.at.put_sheet-requires c).In-Ok) in
    ((is_known (goal.at.put_sheet-requires c).In-Ok).fits, rw c.sheet_of-lies.ensures (sheet_held c.in-Ok.grid passed.0 a.n passed.1 (omega (arith, (is_known (goal.at.put_sheet-requires c).In-Ok).below, passed.2))))

pub code_of-requires : goal.code_of-requires
code_of-requires c =
    let a = c.args in
    omega (arith, lambert_placed a.file.now a.k a.n (length a.place.now) (sym c.on_lambert.ensures ∙ c.in-Err.is))

pub returns-in-Ok : goal.returns-in-Ok
returns-in-Ok c =
    let a = c.args in
    let put = rw c.sheet_of-lies.ensures at c.put_sheet.ensures in
    let is = sym (said (goal.at.returns-in-Ok c).In-Ok) in
    record { value = put.1 ∙ ap (λ x. numbers_code (sheet_as a.n x)) is; place_after = put.0 ∙ ap (λ x. numbers_left a.place.now (sheet_as a.n x)) is }

pub returns-in-Err : goal.returns-in-Err
returns-in-Err c =
    let a = c.args in
    let is = sym (sym c.on_lambert.ensures ∙ c.in-Err.is) in
    record { value = c.code_of.ensures ∙ ap (λ x. numbers_code (sheet_as a.n x)) is; place_after = ap (λ x. numbers_left a.place.now (sheet_as a.n x)) is }
