-- `bits_ones::ones_in_words` meets its contract: a word more holds the bits that are set between its ends.
use Rattle.std.proofs.Common.{arith}
use Rattle.bits_ones.proofs.Laws.{ones_most, ones_of_word}
use Rattle.bits_ones.proofs.ones_in_words.Goals as goal

pub overflow_add-ones : goal.overflow_add-ones
overflow_add-ones c =
    let run = c.args.run.now in
    grind (arith, ones_most, ones_of_word run c.loop-i.i (λ k. (c.type_inv.run k).fits))

pub loop-i-preserved : goal.loop-i-preserved
loop-i-preserved c =
    let run = c.args.run.now in
    grind (arith, ones_of_word run c.loop-i.i (λ k. (c.type_inv.run k).fits))
