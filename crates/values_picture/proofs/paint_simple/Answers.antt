-- `values_picture::paint_simple` meets its contract: the end of the run is lent on, comes back with the greys of the field's integers, and these are spread.
use Rattle.values_integers.specs.Integers.{simple_integer}
use Rattle.values_picture.proofs.Laws.{packed_fit, spread_ready, spread_painted}
use Rattle.values_picture.proofs.paint_simple.Goals as goal

pub overflow_sub-from : goal.overflow_sub-from
overflow_sub-from c = packed_fit c.args.bitmap.now c.args.greys.now c.args.n c.requires.canvas

pub spread-requires-clause-greys_value : goal.spread-requires-clause-greys_value
spread-requires-clause-greys_value c = (spread_ready c.args.bitmap.now c.args.greys.now c.args.n c.requires.canvas _ c.greys-1.given.1).1

pub returns : goal.returns
returns c =
    spread_painted c.args.bitmap.now c.args.greys.now c.args.n c.requires.canvas c.args.scale (simple_integer c.args.numbered.section.now c.args.numbered.bits) _ _
    c.put_simple.ensures c.greys-1.given.1 c.spread.ensures
