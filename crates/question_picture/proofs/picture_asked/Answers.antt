-- `question_picture::picture_asked` meets its contract: the lines and the greys fit, and the lines are put at the run's start, with the greys behind them.
use mathlib.Core.Path.{◌≡◌, sym, ap, ◌∙◌}
use Prim.Native.Nat.{◌+◌, ◌≤◌}
use native.Mathlib.Omega.{arith}
use lib.ListN.{length}
use Rattle.std.specs.Result.{result_ok}
use Rattle.laws_rows.proofs.Laws.{row_length, part_laid}
use Rattle.section_3_geometry.specs.Geometry.{frame_of, points_of}
use Rattle.question.proofs.Known.{known_of}
use Rattle.question_decode.specs.Decoding.{present_of}
use Rattle.question_picture.specs.Picture.{header, greys_of, picture_length, point_integer, run_after}
use Rattle.question_picture.proofs.Laws.{short_sizes, header_short, asked_drawn, largest_told, laid_drawn}
use Rattle.question_picture.proofs.picture_asked.Goals as goal

pub header_length-requires : goal.header_length-requires
header_length-requires c =
    let f = c.args.field in
    rw c.frame_of-frame.ensures (short_sizes f.file.now f.description (known_of f))

pub overflow_add-end : goal.overflow_add-end
overflow_add-end c =
    let long = rw c.frame_of-frame.ensures at c.header_length.ensures in
    omega (arith, long, header_short (frame_of c.args.field.description.grid), c.points.ensures)

pub put_header-first-requires : goal.put_header-first-requires
put_header-first-requires c =
    let f = c.args.field in
    let sizes = short_sizes f.file.now f.description (known_of f) in
    let long = rw c.frame_of-frame.ensures at c.header_length.ensures in
    rw c.frame_of-frame.ensures (sizes.0, sizes.1, omega (arith, long, c.if-run-end.false))

pub overflow_cast-result : goal.overflow_cast-result
overflow_cast-result c =
    let long = rw c.frame_of-frame.ensures at c.header_length.ensures in
    omega (arith, long, header_short (frame_of c.args.field.description.grid), c.points.ensures)

pub returns-clause-run_after : goal.returns-clause-run_after
returns-clause-run_after c =
    let file = c.args.field.file.now in
    let d = c.args.field.description in
    let run = c.args.run.now in
    let lines = header (frame_of d.grid) in
    let greys = greys_of (present_of file d) (point_integer file d) (points_of d.grid) in
    let size : length greys ≡ points_of d.grid = row_length _ (points_of d.grid) in
    let long = rw c.frame_of-frame.ensures at c.header_length.ensures in
    let put = rw c.frame_of-frame.ensures at c.put_header-first.ensures in
    let first = c.put_header-first.result in
    let end = c.header_length.result + c.points.result in
    let painted = part_laid first end c.put_header-first.new.run _ greys c.paint.ensures (omega (arith, size, put.1, long, c.points.ensures)) in
    let told = largest_told file d (known_of c.args.field) (sym c.largest_of.ensures ∙ c.ok_or.ensures.ok_part ∙ ap result_ok c.in_ok-largest.was) in
    let fits : picture_length (frame_of d.grid) ≤ length run = omega (arith, long, c.points.ensures, c.if-run-end.false) in
    laid_drawn run lines greys (omega (arith, size, fits)) put painted ∙ ap (run_after run) (asked_drawn file (length run) d fits told.0)
