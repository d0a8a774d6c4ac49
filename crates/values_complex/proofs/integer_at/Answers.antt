-- `values_complex::integer_at` meets its contract: the first value is told by itself, and a later integer where all up to it are kept.
use mathlib.Core.Path.{◌≡◌, sym, ap, ◌∙◌}
use Prim.Native.Nat.{suc, ◌+◌, ◌-◌, ◌≤◌}
use native.Mathlib.Omega.{arith}
use Rattle.std.specs.Prelude.{is_some}
use Rattle.values_integers.proofs.Joined.{worked_sound}
use Rattle.values_integers.specs.Integers.{stored_at, are_in_range}
use Rattle.values_complex.specs.Complex.{integer_in, single_of}
use Rattle.values_complex.proofs.Joined.{first_out, second_out, range_worked, first_single, single_kept, single_out}
use Rattle.values_complex.proofs.integer_at.Goals.{Else-differencing-gt2147483647-2}
use Rattle.values_complex.proofs.integer_at.Goals as goal

pub returns-then-differencing-gt2147483647 : goal.returns-then-differencing-gt2147483647
returns-then-differencing-gt2147483647 c =
    let g = c.args.grouped in
    let a = c.args in
    single_out g.section.now g.groups a.m (first_out g.section.now g.groups c.if-differencing-gt2147483647.true (suc a.m) (omega arith))

pub returns-then-m-eq0 : goal.returns-then-m-eq0
returns-then-m-eq0 c =
    let g = c.args.grouped in
    first_single g.section.now g.groups c.if-differencing-gt2147483647.false ∙ ap (single_of (integer_in g.section.now g.groups)) (sym c.if-m-eq0.true)

pub returns-then-differencing-gt2147483647-2 : goal.returns-then-differencing-gt2147483647-2
returns-then-differencing-gt2147483647-2 c =
    let g = c.args.grouped in
    let a = c.args in
    single_out g.section.now g.groups a.m (second_out g.section.now g.groups c.if-differencing-gt2147483647-2.true (suc a.m) (omega (arith, c.if-m-eq0.false)))

-- The integer is not the first.
behind : (c : Else-differencing-gt2147483647-2) → 1 ≤ c.args.m
behind c = omega (arith, c.if-m-eq0.false)

pub overflow_cast-result : goal.overflow_cast-result
overflow_cast-result c =
    let g = c.args.grouped in
    let a = c.args in
    omega (arith, (worked_sound g.groups.differencing (stored_at g.section.now g.groups.layout g.groups.bits g.groups.grouping) (a.m - 1) (sym c.worked_to.ensures ∙ c.in_ok-latest.was)).last_fits)

pub returns-in_err-latest : goal.returns-in_err-latest
returns-in_err-latest c =
    let g = c.args.grouped in
    let a = c.args in
    let own : a.m - 1 + 2 ≡ suc a.m = omega (arith, behind (goal.at.returns-in_err-latest c).Else-differencing-gt2147483647-2) in
    c.from_residual.ensures
    ∙ single_out g.section.now g.groups a.m
    (sym (ap (are_in_range (integer_in g.section.now g.groups)) own)
    ∙ range_worked g.section.now g.groups (a.m - 1)
    ∙ ap is_some (sym c.worked_to.ensures ∙ c.in_err-latest.was))

pub returns : goal.returns
returns c =
    let g = c.args.grouped in
    let a = c.args in
    let own : suc (a.m - 1) ≡ a.m = omega (arith, behind (goal.at.returns c).Else-differencing-gt2147483647-2) in
    single_kept g.section.now g.groups (a.m - 1) (sym c.worked_to.ensures ∙ c.in_ok-latest.was) ∙ ap (single_of (integer_in g.section.now g.groups)) own
