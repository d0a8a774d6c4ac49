-- `section::held_signed` meets its contract: it is the sign and the size of what the octets hold.
use Rattle.section.proofs.held_signed.Goals as goal

pub returns : goal.returns
returns c = rw c.held.ensures.0 at c.sign_and_size.ensures
