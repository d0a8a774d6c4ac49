-- `text::digits_in` meets its contract: each arm tells how many times its tenth is taken before the number is below ten.
use mathlib.Core.Path.{sym}
use Prim.Native.Nat.{◌/◌}
use native.Mathlib.Omega.{arith}
use Rattle.text.proofs.Laws.{length_small, length_more, length_more_2}
use Rattle.text.proofs.digits_in.Goals as goal

pub returns-in-0-to-9 : goal.returns-in-0-to-9
returns-in-0-to-9 c = sym (length_small c.args.n (omega arith))

pub returns-in-10-to-99 : goal.returns-in-10-to-99
returns-in-10-to-99 c = let n = c.args.n in sym (length_more n 1 (omega arith) (omega arith) (length_small (n / 10) (omega arith)))

pub returns-in-100-to-999 : goal.returns-in-100-to-999
returns-in-100-to-999 c = let n = c.args.n in sym (length_more_2 n 1 (omega arith) (omega arith) (length_small (n / 10 / 10) (omega arith)))

pub returns-in-1000-to-9999 : goal.returns-in-1000-to-9999
returns-in-1000-to-9999 c =
    let n = c.args.n in
    sym (length_more_2 n 2 (omega arith) (omega arith) (length_more (n / 10 / 10) 1 (omega arith) (omega arith) (length_small (n / 10 / 10 / 10) (omega arith))))

pub returns-in_default : goal.returns-in_default
returns-in_default c =
    let n = c.args.n in
    sym (length_more_2 n 3 (omega arith) (omega arith) (length_more_2 (n / 10 / 10) 1 (omega arith) (omega arith) (length_small (n / 10 / 10 / 10 / 10) (omega arith))))
