-- `section::octet` meets its contract: the octet stands at the place of its number.
use native.Mathlib.Omega.{arith}
use Rattle.section.proofs.octet.Goals as goal

pub returns : goal.returns
returns c = (rw c.place_of-at.ensures, omega (arith, c.type_inv.file c.place_of-at.result.0))
