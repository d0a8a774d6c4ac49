-- `values_simple::unpack` meets its contract: a block for numbers of no bits has their zeros already.
use Rattle.values_simple.proofs.Laws.{no_bits}
use Rattle.values_simple.proofs.unpack.Goals as goal

pub returns-then-numbered-eq0 : goal.returns-then-numbered-eq0
returns-then-numbered-eq0 c = no_bits c.args.numbered.section.now c.args.numbered.bits c.args.done c.args.block.now c.if-numbered-eq0.true c.requires.2
