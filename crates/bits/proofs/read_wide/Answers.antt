-- `bits::read_wide` meets its contract: the bits are cut out of a window of eight octets.
use Rattle.std.proofs.Common.{arith}
use Rattle.bits.proofs.Laws.{cut_by_shifts, bits_in_octets}
use Rattle.bits.proofs.read_wide.Goals as goal

pub returns : goal.returns
returns c =
    let a = c.args in
    grind (arith, cut_by_shifts, bits_in_octets a.run.now a.at.0 a.b (λ i. (c.type_inv.run i).fits))
