-- `doubles::packing_of` meets its contract: a finite R widens without a change, and the powers are what their functions ensure.
use Rattle.doubles.proofs.Answers.{finite_pattern, finite_widens}
use Rattle.doubles.proofs.packing_of.Goals as goal

pub float_from_bits-result : goal.float_from_bits-result
float_from_bits-result c = finite_pattern c.args.r c.requires.finite_r

pub float_to_float-result : goal.float_to_float-result
float_to_float-result c = finite_widens c.args.r c.requires.finite_r
