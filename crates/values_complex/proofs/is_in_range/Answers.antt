-- `values_complex::is_in_range` meets its contract: the first two values are judged, and the integers behind them are worked out to the last.
use mathlib.Core.Path.{◌≡◌, sym, ap, ◌∙◌}
use Prim.Native.Nat.{◌+◌, ◌-◌, ◌≤◌}
use native.Mathlib.Omega.{arith}
use Rattle.std.specs.Prelude.{is_some}
use Rattle.values_integers.specs.Integers.{are_in_range}
use Rattle.values_complex.specs.Complex.{integer_in}
use Rattle.values_complex.proofs.Joined.{first_out, second_out, range_worked}
use Rattle.values_complex.proofs.is_in_range.Goals.{Start}
use Rattle.values_complex.proofs.is_in_range.Goals as goal

-- A field has two values.
two : (s : Start) → 2 ≤ s.args.n
two s = omega (arith, s.requires, s.args.grouped.sound.two_values)

pub returns-then-differencing-gt2147483647 : goal.returns-then-differencing-gt2147483647
returns-then-differencing-gt2147483647 c =
    let g = c.args.grouped in
    sym (first_out g.section.now g.groups c.if-differencing-gt2147483647.true c.args.n (omega (arith, two (goal.at.returns-then-differencing-gt2147483647 c).Start)))

pub returns-then-differencing-gt2147483647-2 : goal.returns-then-differencing-gt2147483647-2
returns-then-differencing-gt2147483647-2 c =
    let g = c.args.grouped in
    sym (second_out g.section.now g.groups c.if-differencing-gt2147483647-2.true c.args.n (two (goal.at.returns-then-differencing-gt2147483647-2 c).Start))

-- All are in their range exactly where the last is kept.
pub returns : goal.returns
returns c =
    let g = c.args.grouped in
    let a = c.args in
    let all : a.n - 2 + 2 ≡ a.n = omega (arith, c.requires, g.sound.two_values) in
    c.is_some.ensures
    ∙ ap is_some c.worked_to.ensures
    ∙ sym (range_worked g.section.now g.groups (a.n - 2))
    ∙ ap (are_in_range (integer_in g.section.now g.groups)) all
