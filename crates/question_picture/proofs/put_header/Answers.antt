-- `question_picture::put_header` meets its contract: its five pieces are put one behind the other, and there is room for each of them.
use Prim.Native.Nat.{ℕ, ◌+◌}
use native.Mathlib.Omega.{arith}
use lib.ListN.{length}
use Rattle.text.specs.Text.{ascii, decimal}
use Rattle.text.proofs.Pieces.{told_none, told_then, told_room}
use Rattle.question_picture.proofs.Laws.{header_long}
use Rattle.question_picture.proofs.put_header.Goals as goal

pub put-kind-requires : goal.put-kind-requires
put-kind-requires c = omega (arith, c.requires.2, header_long c.args.frame)

pub put_short-columns-requires : goal.put_short-columns-requires
put_short-columns-requires c =
    let columns = decimal c.args.frame.ni in
    let rows = decimal c.args.frame.nj in
    let behind : ℕ = length columns + (1 + (length rows + 5)) in
    let told_1 = told_then {a = c.args.run.now} {at = 0} (ascii "P5\n") 3 behind (told_none c.args.run.now 0 (3 + behind) (omega (arith, c.requires.2, header_long c.args.frame))) (omega arith) c.put-kind.ensures in
    (omega (arith, c.requires.0), told_room 5 (omega arith) told_1)

pub put-space-requires : goal.put-space-requires
put-space-requires c =
    let columns = decimal c.args.frame.ni in
    let rows = decimal c.args.frame.nj in
    let behind : ℕ = length columns + (1 + (length rows + 5)) in
    let told_1 = told_then {a = c.args.run.now} {at = 0} (ascii "P5\n") 3 behind (told_none c.args.run.now 0 (3 + behind) (omega (arith, c.requires.2, header_long c.args.frame))) (omega arith) c.put-kind.ensures in
    let told_2 = told_then columns (length columns) (1 + (length rows + 5)) told_1 (omega arith) c.put_short-columns.ensures in
    told_room 1 (omega arith) told_2

pub put_short-rows-requires : goal.put_short-rows-requires
put_short-rows-requires c =
    let columns = decimal c.args.frame.ni in
    let rows = decimal c.args.frame.nj in
    let behind : ℕ = length columns + (1 + (length rows + 5)) in
    let told_1 = told_then {a = c.args.run.now} {at = 0} (ascii "P5\n") 3 behind (told_none c.args.run.now 0 (3 + behind) (omega (arith, c.requires.2, header_long c.args.frame))) (omega arith) c.put-kind.ensures in
    let told_2 = told_then columns (length columns) (1 + (length rows + 5)) told_1 (omega arith) c.put_short-columns.ensures in
    let told_3 = told_then (ascii " ") 1 (length rows + 5) told_2 (omega arith) c.put-space.ensures in
    (omega (arith, c.requires.1), told_room 5 (omega arith) told_3)

pub put-requires : goal.put-requires
put-requires c =
    let columns = decimal c.args.frame.ni in
    let rows = decimal c.args.frame.nj in
    let behind : ℕ = length columns + (1 + (length rows + 5)) in
    let told_1 = told_then {a = c.args.run.now} {at = 0} (ascii "P5\n") 3 behind (told_none c.args.run.now 0 (3 + behind) (omega (arith, c.requires.2, header_long c.args.frame))) (omega arith) c.put-kind.ensures in
    let told_2 = told_then columns (length columns) (1 + (length rows + 5)) told_1 (omega arith) c.put_short-columns.ensures in
    let told_3 = told_then (ascii " ") 1 (length rows + 5) told_2 (omega arith) c.put-space.ensures in
    let told_4 = told_then rows (length rows) 5 told_3 (omega arith) c.put_short-rows.ensures in
    told_room 5 (omega arith) told_4

pub returns : goal.returns
returns c =
    let columns = decimal c.args.frame.ni in
    let rows = decimal c.args.frame.nj in
    let behind : ℕ = length columns + (1 + (length rows + 5)) in
    let told_1 = told_then {a = c.args.run.now} {at = 0} (ascii "P5\n") 3 behind (told_none c.args.run.now 0 (3 + behind) (omega (arith, c.requires.2, header_long c.args.frame))) (omega arith) c.put-kind.ensures in
    let told_2 = told_then columns (length columns) (1 + (length rows + 5)) told_1 (omega arith) c.put_short-columns.ensures in
    let told_3 = told_then (ascii " ") 1 (length rows + 5) told_2 (omega arith) c.put-space.ensures in
    let told_4 = told_then rows (length rows) 5 told_3 (omega arith) c.put_short-rows.ensures in
    let told_5 = told_then (ascii "\n255\n") 5 0 told_4 (omega arith) c.put.ensures in
    told_5.put
