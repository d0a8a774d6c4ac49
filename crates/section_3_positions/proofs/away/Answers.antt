-- `section_3_positions::away` meets its contract: where there are several points, the quotient is the nearest whole number, halves up.
use native.Mathlib.Omega.{arith}
use Rattle.section_3_positions.proofs.Nearest.{quotient_away}
use Rattle.section_3_positions.proofs.away.Goals as goal

pub returns : goal.returns
returns c = quotient_away (omega arith)
