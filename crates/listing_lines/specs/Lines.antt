-- RULES, "Listing": what a line says of a refusal, or of a field behind its number.
use Rattle.std.specs.Prelude.{ℕ, List, ◌++◌}
use Rattle.refusals.specs.declared.Refusal.{Refusal}
use Rattle.refusals.specs.Refusals.{number_of}
use Rattle.calendar.specs.declared.Time.{Time}
use Rattle.calendar.specs.Calendar.{digits_of}
use Rattle.section_3_geometry.specs.declared.Frame.{Frame}
use Rattle.section_3_geometry.specs.Geometry.{frame_of}
use Rattle.section_4.specs.declared.Product.{Product}
use Rattle.section_4.specs.declared.ProductDefinition.{ProductDefinition}
use Rattle.question.specs.declared.Description.{Description}
use Rattle.text.specs.Text.{ascii, decimal}

-- A refusal is told by its number and its place.
abbrev pub refusal_text : Refusal → List ℕ
refusal_text r = ascii "refused " ++ decimal (number_of r.why) ++ ascii " at " ++ decimal r.place.0

-- What a field is about: discipline, category and parameter.
abbrev pub subject_text : ℕ → ProductDefinition → List ℕ
subject_text discipline d = decimal discipline ++ ascii "/" ++ decimal d.category ++ ascii "/" ++ decimal d.parameter

-- Its size, Ni and Nj, whichever kind of grid it is on.
abbrev pub size_text : Frame → List ℕ
size_text f = decimal f.ni ++ ascii "x" ++ decimal f.nj

-- The time that is listed: the valid time, for an interval its end.
abbrev pub listed_by : Time → Product → Time
listed_by valid Product.Instant = valid
listed_by valid (Product.Interval end kind) = end

abbrev pub listed_time : ProductDefinition → Time
listed_time d = listed_by d.valid d.product

-- A field: its subject, first surface type, size, time in 14 digits, and N.
abbrev pub field_text : Description → List ℕ
field_text d =
    subject_text d.discipline d.definition
    ++ ascii " "
    ++ decimal d.definition.surface
    ++ ascii " "
    ++ size_text (frame_of d.grid)
    ++ ascii " "
    ++ digits_of (listed_time d.definition)
    ++ ascii " "
    ++ decimal d.representation.n
