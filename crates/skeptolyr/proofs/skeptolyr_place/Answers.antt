-- `skeptolyr::skeptolyr_place` meets its contract: the two numbers are put, and a refusal puts none.
use mathlib.Core.Path.{◌≡◌, sym, ap, ◌∙◌}
use native.Mathlib.Omega.{arith}
use lib.ListN.{length}
use Rattle.question_numbers.proofs.Held.{placed_held}
use Rattle.section_3_geometry.specs.declared.Grid.TheVariants as Grid
use Rattle.question_place.specs.Place.{on_degrees}
use Rattle.section_3_geometry.proofs.Laws.{taken_measured}
use Rattle.question_place.proofs.Laws.{Placeable, judged_degrees, degrees_passes, degrees_placed}
use Rattle.skeptolyr.specs.Codes.{numbers_code, numbers_left, placed_as}
use Rattle.skeptolyr.proofs.skeptolyr_place.Goals.{In-Ok}
use Rattle.skeptolyr.proofs.skeptolyr_place.Goals as goal
use Rattle.std.specs.Prelude.{Ok}

-- The question is judged, and this is the field's grid.
said : (c : In-Ok) →
    let a = c.args in
    on_degrees a.file.now a.k a.n (length a.position.now) ≡ Ok c.in-Ok.grid
said c = sym c.on_degrees.ensures ∙ c.in-Ok.is

is_known : (c : In-Ok) →
    let a = c.args in
    Placeable a.file.now a.k a.n (length a.position.now) (Grid.Degrees c.in-Ok.grid)
is_known c = let a = c.args in judged_degrees a.file.now a.k a.n (length a.position.now) (said c)

pub overflow_cast-n : goal.overflow_cast-n
overflow_cast-n c =
    let a = c.args in
    omega (arith, (is_known (goal.at.overflow_cast-n c).In-Ok).below, (degrees_passes a.file.now a.k a.n (length a.position.now) (is_known (goal.at.overflow_cast-n c).In-Ok)).2)

pub position_of-lies-requires : goal.position_of-lies-requires
position_of-lies-requires c =
    let a = c.args in
    let passed = degrees_passes a.file.now a.k a.n (length a.position.now) (is_known (goal.at.position_of-lies-requires c).In-Ok) in
    taken_measured _ passed.0 passed.1

pub put_position-requires : goal.put_position-requires
put_position-requires c =
    let a = c.args in
    let passed = degrees_passes a.file.now a.k a.n (length a.position.now) (is_known (goal.at.put_position-requires c).In-Ok) in
    ((is_known (goal.at.put_position-requires c).In-Ok).fits, rw c.position_of-lies.ensures (placed_held c.in-Ok.grid passed.0 a.n passed.1 (is_known (goal.at.put_position-requires c).In-Ok).below))

pub code_of-requires : goal.code_of-requires
code_of-requires c =
    let a = c.args in
    omega (arith, degrees_placed a.file.now a.k a.n (length a.position.now) (sym c.on_degrees.ensures ∙ c.in-Err.is))

pub returns-in-Ok : goal.returns-in-Ok
returns-in-Ok c =
    let a = c.args in
    let put = rw c.position_of-lies.ensures at c.put_position.ensures in
    let is = sym (said (goal.at.returns-in-Ok c).In-Ok) in
    record { value = put.1 ∙ ap (λ x. numbers_code (placed_as a.n x)) is; position_after = put.0 ∙ ap (λ x. numbers_left a.position.now (placed_as a.n x)) is }

pub returns-in-Err : goal.returns-in-Err
returns-in-Err c =
    let a = c.args in
    let is = sym (sym c.on_degrees.ensures ∙ c.in-Err.is) in
    record { value = c.code_of.ensures ∙ ap (λ x. numbers_code (placed_as a.n x)) is; position_after = ap (λ x. numbers_left a.position.now (placed_as a.n x)) is }
