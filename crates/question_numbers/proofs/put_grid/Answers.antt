-- `question_numbers::put_grid` meets its contract: two pieces are put one behind the other.
use mathlib.Core.Path.{ap, ◌∙◌}
use native.Mathlib.Omega.{arith}
use Rattle.section_3_geometry.specs.Geometry.{frame_of}
use Rattle.laws_rows.proofs.Puts.{puts_then}
use Rattle.question_numbers.specs.Numbers.{frame_numbers, degree_numbers}
use Rattle.question_numbers.proofs.Laws.{degrees_length}
use Rattle.question_numbers.proofs.put_grid.Goals as goal

pub returns : goal.returns
returns c =
    let g = c.args.grid in
    puts_then c.args.run.now c.args.at (frame_numbers (frame_of g)) (degree_numbers g)
    (omega (arith, c.requires.0, degrees_length g))
    (rw (c.frame_numbers.ensures ∙ ap frame_numbers c.frame_of.ensures) at c.put-degrees.ensures)
    (rw c.degree_numbers.ensures at c.put.ensures)
