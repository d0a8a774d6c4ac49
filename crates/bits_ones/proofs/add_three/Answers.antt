-- `bits_ones::add_three` meets its contract: its sum and its carry are those of the law of three words added bit by bit.
use Rattle.bits_ones.proofs.Adding.{ones_added}
use Rattle.bits_ones.proofs.add_three.Goals as goal

pub returns : goal.returns
returns c = ones_added 64 c.args.a c.args.b c.args.c c.ranges.a.fits c.ranges.b.fits c.ranges.c.fits
