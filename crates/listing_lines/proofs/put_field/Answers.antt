-- `listing_lines::put_field` meets its contract: its nine pieces are put one behind the other.
use mathlib.Core.Path.{ap, ◌∙◌}
use native.Mathlib.Omega.{arith}
use Rattle.calendar.specs.Calendar.{digits_of}
use Rattle.section_3_geometry.specs.Geometry.{frame_of}
use Rattle.text.specs.Text.{ascii, decimal}
use Rattle.text.proofs.Pieces.{puts_five}
use Rattle.listing_lines.specs.Lines.{subject_text, size_text, listed_time}
use Rattle.listing_lines.proofs.Laws.{front_text, front_short, field_short}
use Rattle.listing_lines.proofs.put_field.Goals as goal

pub returns : goal.returns
returns c =
    let d = c.args.description in
    let subject = subject_text d.discipline d.definition in
    let size = size_text (frame_of d.grid) in
    let shown = digits_of (listed_time d.definition) in
    let surface = decimal d.definition.surface in
    let sized = rw c.frame_of.ensures at c.put_size-frame.ensures in
    let timed = rw (c.digits-digits.ensures ∙ ap digits_of c.listed_time.ensures) at c.put-moment.ensures in
    let front =
    puts_five c.args.run.now c.args.at subject (ascii " ") surface (ascii " ") size (omega (arith, c.requires, front_short d))
    c.put_subject-subject.ensures c.put-surface.ensures c.put_decimal-kind.ensures c.put-size.ensures sized in
    puts_five c.args.run.now c.args.at (front_text d) (ascii " ") shown (ascii " ") (decimal d.representation.n) (omega (arith, c.requires, field_short d))
    front c.put-time.ensures timed c.put-count.ensures c.put_decimal.ensures
