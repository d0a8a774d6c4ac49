-- `tiling::tile` meets its contract. The loop's invariant: the reading has come to where the locals say. The measure is what is left of the file.
use Prim.Native.Nat.{◌-◌}
use mathlib.Core.Path.{◌≡◌, sym, ◌∙◌}
use native.Mathlib.Omega.{arith}
use borrow.Author.Rules.{rules}
use borrow.Author.Tests.{lt-ltb, le-ltb}
use Rattle.std.specs.Prelude.{Err}
use Rattle.tiling_sections.specs.Walk.{told}
use Rattle.tiling.specs.Tiling.{message}
use Rattle.tiling.proofs.Come.{Taken, message_taken, come_on, come_bad, come_end}
use Rattle.tiling.proofs.tile.Goals.{In_ok-message, After-from_residual, then-fields-k, else-fields-k}
use Rattle.tiling.proofs.tile.Goals as goal

-- What `message_at` has told of a whole message.
taken : (c : In_ok-message) →
    let a = c.args in
    let l = c.loop-at in
    let m = c.in_ok-message.message in
    Taken a.file.now l.at.0 (a.k - l.fields) m.count m.next.0 m.hit
taken c = message_taken _ _ _ c.loop-at.invariant.inside (search rules)

pub overflow_add-fields : goal.overflow_add-fields
overflow_add-fields c = let t = taken (goal.at.overflow_add-fields c).In_ok-message in search rules

pub loop-at-smaller : goal.loop-at-smaller
loop-at-smaller c = omega (arith, taken (goal.at.loop-at-smaller c).In_ok-message)

pub loop-at-preserved : goal.loop-at-preserved
loop-at-preserved c =
    let on = come_on c.loop-at.invariant c.loop-at-test.true (taken (goal.at.loop-at-preserved c).In_ok-message) in
    elim c.if-fields-k.branch [
      | then-fields-k w ↦ rw w.found-is (rw (le-ltb c.args.k c.loop-at.fields w.if-fields-k.true) at on)
      | else-fields-k w ↦ rw w.found-is (rw (lt-ltb c.args.k c.loop-at.fields (omega (arith, w.if-fields-k.false))) at on)
    ]

-- What it has told else, and what is answered then.
bad : (c : After-from_residual) → told (c.args.k - c.loop-at.fields) (message c.args.file.now c.loop-at.at.0) ≡ Err c.in_err-message.field-0.0
bad c = search rules

refused : (c : After-from_residual) → c.from_residual.result ≡ Err c.in_err-message.field-0.0
refused c = search rules

pub returns-in_err-message : goal.returns-in_err-message
returns-in_err-message c = refused c ∙ sym (come_bad c.loop-at.invariant _ c.loop-at-test.true (bad c))

pub returns : goal.returns
returns c = sym (come_end c.loop-at.invariant c.loop-at-test.false)
