-- `text::spell` meets its contract. The invariant: what `rest` is spelt by, and then the digits from `i` on, spell the number.
use mathlib.Core.Path.{◌≡◌, ◌∙◌, sym}
use Prim.Native.Nat.{◌-◌}
use native.Mathlib.Omega.{arith}
use lib.ListN.{length-set}
use Rattle.text.proofs.Laws.{spelt_first, spelt_more, spelt_all, spelt_none}
use Rattle.text.proofs.spell.Goals as goal

pub loop-i-init : goal.loop-i-init
loop-i-init c = (c.told-digits, spelt_none c.args.digits.now c.args.n c.told-digits)

pub returns-then-rest-eq0 : goal.returns-then-rest-eq0
returns-then-rest-eq0 c =
    let l = c.loop-i in
    (spelt_first l.digits l.i (l.i - 1) l.rest (omega arith) (omega (arith, l.invariant.0)) (omega arith) ∙ l.invariant.1, omega arith)

pub loop-i-preserved : goal.loop-i-preserved
loop-i-preserved c =
    let l = c.loop-i in
    (rw length-set l.invariant.0, spelt_more l.digits l.i (l.i - 1) l.rest (omega arith) (omega (arith, l.invariant.0)) (omega arith) ∙ l.invariant.1)

pub returns : goal.returns
returns c =
    let l = c.loop-i in
    let none : l.i ≡ 0 = omega arith in
    (sym (spelt_all l.digits l.rest) ∙ rw none at l.invariant.1, omega arith)
