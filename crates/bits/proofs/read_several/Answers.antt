-- `bits::read_several` meets its contract: each number is cut out of the window and stands in its place of the row.
use Rattle.std.proofs.Common.{arith, ◌+◌, ◌-◌, ◌*◌, ◌≡◌}
use Rattle.std.proofs.lemmas.Grind.{common_steps}
use Rattle.std.proofs.lemmas.List.FromFn.{fill_by_all}
use Rattle.bits.specs.Bits.{bits_at}
use Rattle.bits.proofs.Laws.{one_of_several, numbers_around}
use Rattle.bits.proofs.read_several.Goals as goal

pub loop-i-preserved : goal.loop-i-preserved
loop-i-preserved g c =
    let a = c.args in
    let l = c.loop-i in
    let found : c.lowest.result ≡ bits_at a.run.now (a.at.0 + l.i * a.b) a.b =
    grind (arith, one_of_several a.run.now a.at.0 a.b (g.row.K * a.b) (l.i * a.b) ((g.row.K - 1 - l.i) * a.b) (λ i. (c.type_inv.run i).fits), numbers_around l.i g.row.K a.b) in
    grind (arith, common_steps, found)

pub returns : goal.returns
returns g c =
    let a = c.args in
    fill_by_all (λ k. bits_at a.run.now (a.at.0 + k * a.b) a.b) c.loop-i.numbers g.row.K 0 c.loop-i.invariant.0 (λ k h. c.loop-i.invariant.1 k (omega arith))
