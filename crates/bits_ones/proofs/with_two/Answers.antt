-- `bits_ones::with_two` meets its contract: each of the two words holds the bits that are set in eight octets, and no bit is lost where three words are
-- added.
use Rattle.std.proofs.Common.{arith}
use Rattle.bits_ones.proofs.Laws.{ones_of_two}
use Rattle.bits_ones.proofs.with_two.Goals as goal

pub returns : goal.returns
returns c =
    let a = c.args in
    grind (arith, ones_of_two a.run.now a.at (λ k. (c.type_inv.run k).fits))
