-- `question_numbers::put_one` meets its contract: one store is a piece of one number.
use mathlib.Core.Path.{refl}
use mathlib.Core.List.{[], ◌∷◌}
use lib.Seq.{sets-eq}
use mir.Syntax.{w64}
use mir.Facts.{to_z-of_z}
use Rattle.question_numbers.proofs.put_one.Goals as goal

pub returns : goal.returns
returns c = (rw (to_z-of_z {w = w64} c.ranges.number) (sets-eq (c.args.number ∷ []) c.args.run.now c.args.at c.requires), refl)
