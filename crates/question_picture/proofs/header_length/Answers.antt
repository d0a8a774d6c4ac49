-- `question_picture::header_length` meets its contract.
use native.Mathlib.Omega.{arith}
use Rattle.text.proofs.Laws.{decimal_short}
use Rattle.question_picture.proofs.Laws.{header_long}
use Rattle.question_picture.proofs.header_length.Goals as goal

pub overflow_add-result : goal.overflow_add-result
overflow_add-result c = omega (arith, c.digits_in.ensures, decimal_short c.args.frame.ni)

pub overflow_add-result-2 : goal.overflow_add-result-2
overflow_add-result-2 c =
    let f = c.args.frame in
    omega (arith, c.digits_in.ensures, c.digits_in-2.ensures, decimal_short f.ni, decimal_short f.nj)

pub returns : goal.returns
returns c = omega (arith, c.digits_in.ensures, c.digits_in-2.ensures, header_long c.args.frame)
