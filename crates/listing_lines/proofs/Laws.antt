-- The laws of a line: how long each text is at most.
use mathlib.Core.List.{List, ◌++◌}
use Prim.Native.Nat.{ℕ, ◌≤◌}
use native.Mathlib.Omega.{arith}
use lib.ListN.{length, length-append}
use Rattle.refusals.specs.declared.Refusal.{Refusal}
use Rattle.refusals.specs.Refusals.{number_of}
use Rattle.section_3_geometry.specs.declared.Frame.{Frame}
use Rattle.section_3_geometry.specs.Geometry.{frame_of}
use Rattle.section_4.specs.declared.ProductDefinition.{ProductDefinition}
use Rattle.calendar.specs.Calendar.{digits_of}
use Rattle.question.specs.declared.Description.{Description}
use Rattle.text.specs.Text.{ascii, decimal}
use Rattle.text.proofs.Laws.{decimal_short}
use Rattle.listing_lines.specs.Lines.{refusal_text, subject_text, size_text, listed_time, field_text}

-- How long the texts are. A number takes at most 20 octets.
pub refusal_short : (r : Refusal) → length (refusal_text r) ≤ 52
refusal_short r = simp length-append (omega (arith, decimal_short (number_of r.why), decimal_short r.place.0))

pub subject_short : (discipline : ℕ) (d : ProductDefinition) → length (subject_text discipline d) ≤ 62
subject_short discipline d = simp length-append (omega (arith, decimal_short discipline, decimal_short d.category, decimal_short d.parameter))

pub size_short : (f : Frame) → length (size_text f) ≤ 41
size_short f = simp length-append (omega (arith, decimal_short f.ni, decimal_short f.nj))

-- What stands behind a field's number, as far as its size.
abbrev pub front_text : Description → List ℕ
front_text d = subject_text d.discipline d.definition ++ ascii " " ++ decimal d.definition.surface ++ ascii " " ++ size_text (frame_of d.grid)

pub front_short : (d : Description) → length (front_text d) ≤ 125
front_short d =
    simp length-append (omega (
      arith,
      decimal_short d.discipline,
      decimal_short d.definition.category,
      decimal_short d.definition.parameter,
      decimal_short d.definition.surface,
      decimal_short (frame_of d.grid).ni,
      decimal_short (frame_of d.grid).nj,
    ))

-- And all of it, over its texts.
behind : (front digits : List ℕ) (n : ℕ) → length front ≤ 125 → length digits ≤ 14 → length (front ++ ascii " " ++ digits ++ ascii " " ++ decimal n) ≤ 161
behind front digits n front-fits digits-fit = simp length-append (omega (arith, decimal_short n))

pub field_short : (d : Description) → length (field_text d) ≤ 161
field_short d = behind (front_text d) (digits_of (listed_time d.definition)) d.representation.n (front_short d) (omega arith)
