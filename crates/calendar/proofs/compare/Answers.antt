-- `calendar::compare` meets its contract: the order by the parts is the order by the digits.
use mathlib.Core.Path.{◌∙◌}
use Rattle.calendar.proofs.Order.{by_digits}
use Rattle.calendar.proofs.compare.Goals as goal

pub returns : goal.returns
returns c = c.cmp.ensures ∙ by_digits c.args.a c.args.b c.requires.0 c.requires.1
