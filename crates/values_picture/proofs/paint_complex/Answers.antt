-- `values_picture::paint_complex` meets its contract: the end of the run is lent on, comes back with the greys of the field's integers, and these are spread.
use mathlib.Core.Path.{◌∙◌}
use native.Mathlib.Omega.{arith}
use Rattle.values_complex.specs.Complex.{size_in}
use Rattle.values_picture.proofs.Laws.{packed_fit, lent_length, spread_ready, spread_painted}
use Rattle.values_picture.proofs.paint_complex.Goals as goal

pub overflow_sub-from : goal.overflow_sub-from
overflow_sub-from c = packed_fit c.args.bitmap.now c.args.greys.now c.args.n c.requires.canvas

pub put_complex-requires : goal.put_complex-requires
put_complex-requires c =
    let long = lent_length c.args.bitmap.now c.args.greys.now c.args.n c.requires.canvas in
    record { all_in_range = c.requires.all_in_range; greys_value = long ∙ c.requires.n_value; scaled_to = (c.requires.scaled_to.0, λ m l. c.requires.scaled_to.1 m (omega (arith, l, c.requires.n_value))) }

pub spread-requires-clause-greys_value : goal.spread-requires-clause-greys_value
spread-requires-clause-greys_value c = (spread_ready c.args.bitmap.now c.args.greys.now c.args.n c.requires.canvas _ c.greys-1.given.1).1

pub returns : goal.returns
returns c =
    let g = c.args.grouped in
    spread_painted c.args.bitmap.now c.args.greys.now c.args.n c.requires.canvas c.args.scale (size_in g.section.now g.groups) _ _
    c.put_complex.ensures c.greys-1.given.1 c.spread.ensures
