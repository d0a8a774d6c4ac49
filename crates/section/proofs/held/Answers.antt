-- `section::held` meets its contract: the octets from `first` to `last` are so many octets from the place of `first` on.
use Rattle.section.proofs.held.Goals as goal

pub returns : goal.returns
returns c = (rw c.place_of.ensures at c.number_at.ensures.0, c.number_at.ensures.1)
