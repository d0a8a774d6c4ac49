-- `question_place::sheet` meets its contract: the grid was judged, and has the point.
use mathlib.Core.Path.{sym, ◌∙◌}
use native.Mathlib.Omega.{arith}
use Rattle.section_3_lambert.proofs.Laws.{taken_measured}
use Rattle.question_place.specs.Place.{place_length}
use Rattle.question_place.proofs.Laws.{judged_lambert, lambert_passes}
use Rattle.question_place.proofs.sheet.Goals as goal

pub overflow_cast-n : goal.overflow_cast-n
overflow_cast-n c =
    let a = c.args in
    let judged = judged_lambert a.file.now a.k a.n place_length (sym c.on_lambert.ensures ∙ c.in_ok-grid.was) in
    omega (arith, judged.below, (lambert_passes a.file.now a.k a.n place_length judged).2)

pub sheet_of-requires : goal.sheet_of-requires
sheet_of-requires c =
    let a = c.args in
    let judged = judged_lambert a.file.now a.k a.n place_length (sym c.on_lambert.ensures ∙ c.in_ok-grid.was) in
    let passed = lambert_passes a.file.now a.k a.n place_length judged in
    taken_measured _ passed.0 passed.1
