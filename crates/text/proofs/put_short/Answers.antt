-- `text::put_short` meets its contract: in each arm, each digit goes behind the digits of the tenth. The places behind the calls are named by the digits put.
use mathlib.Core.Path.{refl}
use Prim.Native.Nat.{◌/◌}
use native.Mathlib.Omega.{arith}
use Rattle.text.proofs.Pieces.{told_digit, told_digits}
use Rattle.text.proofs.put_short.Goals as goal

pub returns-then-n-lt10 : goal.returns-then-n-lt10
returns-then-n-lt10 c =
    let n = c.args.n in
    let told_1 = told_digit n 0 (omega (arith, c.requires.1)) c.if-n-lt10.true c.put_digit.ensures in
    told_1.put

pub returns-then-n-lt100 : goal.returns-then-n-lt100
returns-then-n-lt100 c =
    let n = c.args.n in
    let told_1 = told_digit (n / 10) 1 (omega (arith, c.requires.1)) (omega (arith, c.if-n-lt100.true)) c.put_digit-ones.ensures in
    let told_2 = told_digits (n / 10) n 0 refl (omega (arith, c.if-n-lt10.false)) (omega (arith, c.requires.0)) told_1 c.put_digit-then-n-lt100.ensures in
    told_2.put

pub returns-then-n-lt1000 : goal.returns-then-n-lt1000
returns-then-n-lt1000 c =
    let n = c.args.n in
    let told_1 = told_digit (n / 100) 2 (omega (arith, c.requires.1)) (omega (arith, c.if-n-lt1000.true)) c.put_digit-tens.ensures in
    let told_2 = told_digits (n / 100) (n / 10) 1 (omega arith) (omega (arith, c.if-n-lt100.false)) (omega (arith, c.requires.0)) told_1 c.put_digit-ones-then-n-lt1000.ensures in
    let told_3 = told_digits (n / 10) n 0 refl (omega (arith, c.if-n-lt100.false)) (omega (arith, c.requires.0)) told_2 c.put_digit-then-n-lt1000.ensures in
    told_3.put

pub returns-then-n-lt10000 : goal.returns-then-n-lt10000
returns-then-n-lt10000 c =
    let n = c.args.n in
    let told_1 = told_digit (n / 1000) 3 (omega (arith, c.requires.1)) (omega (arith, c.if-n-lt10000.true)) c.put_digit-hundreds.ensures in
    let told_2 = told_digits (n / 1000) (n / 100) 2 (omega arith) (omega (arith, c.if-n-lt1000.false)) (omega (arith, c.requires.0)) told_1 c.put_digit-tens-then-n-lt10000.ensures in
    let told_3 = told_digits (n / 100) (n / 10) 1 (omega arith) (omega (arith, c.if-n-lt1000.false)) (omega (arith, c.requires.0)) told_2 c.put_digit-ones-then-n-lt10000.ensures in
    let told_4 = told_digits (n / 10) n 0 refl (omega (arith, c.if-n-lt1000.false)) (omega (arith, c.requires.0)) told_3 c.put_digit-then-n-lt10000.ensures in
    told_4.put

pub returns : goal.returns
returns c =
    let start = c in
    let n = start.args.n in
    let told_1 = told_digit (n / 10000) 4 start.requires.1 (omega (arith, start.requires.0)) c.put_digit-thousands.ensures in
    let told_2 = told_digits (n / 10000) (n / 1000) 3 (omega arith) (omega (arith, c.if-n-lt10000.false)) (omega (arith, start.requires.0)) told_1 c.put_digit-hundreds-2.ensures in
    let told_3 = told_digits (n / 1000) (n / 100) 2 (omega arith) (omega (arith, c.if-n-lt10000.false)) (omega (arith, start.requires.0)) told_2 c.put_digit-tens-2.ensures in
    let told_4 = told_digits (n / 100) (n / 10) 1 (omega arith) (omega (arith, c.if-n-lt10000.false)) (omega (arith, start.requires.0)) told_3 c.put_digit-ones-2.ensures in
    let told_5 = told_digits (n / 10) n 0 refl (omega (arith, c.if-n-lt10000.false)) (omega (arith, start.requires.0)) told_4 c.put_digit-2.ensures in
    told_5.put
