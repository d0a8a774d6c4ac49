-- `question_numbers::put_description` meets its contract: what a Lambert grid alone has is put behind what every description has.
use native.Mathlib.Omega.{arith}
use Rattle.laws_rows.proofs.Puts.{puts_then}
use Rattle.question_numbers.specs.Numbers.{shared_numbers, lambert_numbers}
use Rattle.question_numbers.proofs.Laws.{shared_length, lambert_length_lem}
use Rattle.question_numbers.proofs.put_description.Goals as goal

pub returns : goal.returns
returns c =
    let d = c.args.description in
    puts_then c.args.run.now 0 (shared_numbers d) (lambert_numbers d.grid)
    (omega (arith, c.requires.0, lambert_length_lem d.grid, shared_length d))
    c.put_shared-lambert.ensures
    c.put_lambert.ensures
