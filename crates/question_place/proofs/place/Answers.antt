-- `question_place::place` meets its contract: the grid was judged, and has the point.
use mathlib.Core.Path.{sym, ◌∙◌}
use native.Mathlib.Omega.{arith}
use Rattle.section_3_geometry.proofs.Laws.{taken_measured}
use Rattle.question_place.specs.Place.{place_length}
use Rattle.question_place.proofs.Laws.{judged_degrees, degrees_passes}
use Rattle.question_place.proofs.place.Goals as goal

pub overflow_cast-n : goal.overflow_cast-n
overflow_cast-n c =
    let a = c.args in
    let judged = judged_degrees a.file.now a.k a.n place_length (sym c.on_degrees.ensures ∙ c.in_ok-grid.was) in
    omega (arith, judged.below, (degrees_passes a.file.now a.k a.n place_length judged).2)

pub position_of-requires : goal.position_of-requires
position_of-requires c =
    let a = c.args in
    let judged = judged_degrees a.file.now a.k a.n place_length (sym c.on_degrees.ensures ∙ c.in_ok-grid.was) in
    let passed = degrees_passes a.file.now a.k a.n place_length judged in
    taken_measured _ passed.0 passed.1
