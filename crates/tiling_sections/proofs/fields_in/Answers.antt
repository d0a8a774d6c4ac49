-- `tiling_sections::fields_in` meets its contract. The loop's invariant: the walk over the message's sections has reached its progress. The
-- measure is what is left of the sections.
use Prim.Native.Nat.{ℕ}
use mathlib.Core.Path.{◌≡◌, ap, sym, ◌∙◌}
use native.Mathlib.Omega.{arith}
use borrow.Author.Rules.{rules}
use borrow.Author.Tests.{eq-eqb, ne_eqb}
use Rattle.std.specs.Prelude.{Some, Ok, Err}
use Rattle.refusals.specs.Refusals.{refusal}
use Rattle.tiling_sections.specs.Walk.{section_at, bitmap_after}
use Rattle.tiling_sections.proofs.Reached.{reached_on, reached_end, reached_bad}
use Rattle.tiling_sections.proofs.fields_in.Goals.{then-count-k, else-count-k, In_ok-found, In-Some, After-from_residual}
use Rattle.tiling_sections.proofs.fields_in.Goals as goal

-- What `section_at` has found, where it is no fault.
met : (c : In_ok-found) →
    let w = c.loop-found in
    section_at c.args.file.now w.at.0 c.args.end.0 w.after ≡ Ok c.in_ok-found.found
met c = search rules

-- The section that it has found.
stands : (c : In-Some) →
    let w = c.loop-found in
    section_at c.args.file.now w.at.0 c.args.end.0 w.after ≡ Ok (Some c.in-Some.field-0)
stands c = search rules

pub loop-found-preserved-in-3 : goal.loop-found-preserved-in-3
unfolding bitmap_after
loop-found-preserved-in-3 c =
    let on = reached_on {k = c.args.k} c.loop-found.invariant (stands (goal.at.loop-found-preserved-in-3 c).In-Some) in
    rw (c.starts_after-starts-in-loop-found.ensures, c.in-3.is) (rw c.in-3.is at on)

pub loop-found-preserved-in-6 : goal.loop-found-preserved-in-6
unfolding bitmap_after
loop-found-preserved-in-6 c =
    let on = reached_on {k = c.args.k} c.loop-found.invariant (stands (goal.at.loop-found-preserved-in-6 c).In-Some) in
    rw (c.starts_after-starts-in-loop-found.ensures, c.bitmap_behind-bitmap.ensures, c.in-6.is) (rw c.in-6.is at on)

pub loop-found-preserved-after-count-k : goal.loop-found-preserved-after-count-k
unfolding bitmap_after
loop-found-preserved-after-count-k c =
    let starts = c.starts_after-starts-in-loop-found.ensures in
    let on = reached_on {k = c.args.k} c.loop-found.invariant (stands (goal.at.loop-found-preserved-after-count-k c).In-Some) in
    elim c.if-count-k.branch [
      | then-count-k w ↦ rw (w.hit-is, starts, c.in-7.is) (rw (c.in-7.is, eq-eqb _ _ w.if-count-k.true) at on)
      | else-count-k w ↦ rw (w.hit-is, starts, c.in-7.is) (rw (c.in-7.is, ne_eqb _ _ w.if-count-k.false) at on)
    ]

pub loop-found-preserved : goal.loop-found-preserved
unfolding bitmap_after
loop-found-preserved c =
    let n : ℕ = c.in-Some.field-0.number in
    let on = reached_on {k = c.args.k} c.loop-found.invariant (stands (goal.at.loop-found-preserved c).In-Some) in
    rw c.starts_after-starts-in-loop-found.ensures (rw (ne_eqb n 3 (λ i. omega arith), ne_eqb n 6 (λ i. omega arith), ne_eqb n 7 (λ i. omega arith)) at on)

pub returns-in_default : goal.returns-in_default
returns-in_default c =
    let end = met (goal.at.returns-in_default c).In_ok-found ∙ ap Ok c.in_default.is in
    sym (reached_end c.loop-found.invariant end)

-- What `section_at` has found, where it is a fault, and what is answered then.
faulty : (c : After-from_residual) →
    let w = c.loop-found in
    section_at c.args.file.now w.at.0 c.args.end.0 w.after ≡ Err c.in_err-found.field-0.0.why
faulty c = search rules

refused : (c : After-from_residual) → c.from_residual.result ≡ Err (refusal c.in_err-found.field-0.0.why c.loop-found.at.0)
refused c = search rules

pub returns-in_err-found : goal.returns-in_err-found
returns-in_err-found c = refused c ∙ sym (reached_bad c.loop-found.invariant (faulty c))
