-- RULES, "A description": what the description of a field holds. Each part is what a section in force says, and each section is taken.
use Rattle.std.specs.Prelude.{◌≡◌, List, ℕ, Option, Some}
use Rattle.calendar.specs.declared.Time.{Time}
use Rattle.tiling_sections.specs.declared.Located.{Located}
use Rattle.section_1.specs.Identification.{identification_at}
use Rattle.section_3_geometry.specs.Geometry.{points_of}
use Rattle.section_3.specs.Section3.{grid_at}
use Rattle.section_4.specs.Product.{product_definition_at}
use Rattle.section_5.specs.declared.Representation.{Representation}
use Rattle.section_5.specs.Representation.{representation_at}
use Rattle.section_6.specs.Presence.{presence_at}
use Rattle.section_7.specs.Packing.{data_at}
use Rattle.question.specs.declared.Description.{Description}
use Rattle.question.specs.Describe.{discipline_at}
use Rattle.section_4.specs.declared.ProductDefinition.{ProductDefinition}
use Rattle.section_3_geometry.specs.declared.Grid.{Grid}
use Rattle.section_1.specs.declared.Identification.{Identification}
use Rattle.section_6.specs.declared.Presence.{Presence}
use Rattle.section_7.specs.declared.Data.{Data}

-- What each section in force says of the field that lies at l. The times of section 4 are counted from a reference time, section 6 marks so many points, of
-- which n are present, and section 7 holds the values of a representation.
module _ (file : List ℕ) (l : Located) where
  abbrev pub identification_of : Option Identification
  identification_of = identification_at file l.starts.one.0

  abbrev pub grid_of : Option Grid
  grid_of = grid_at file l.starts.three.0

  abbrev pub product_of : Time → Option ProductDefinition
  product_of reference = product_definition_at file l.starts.four.0 reference

  abbrev pub representation_of : Option Representation
  representation_of = representation_at file l.starts.five.0

  abbrev pub presence_of : ℕ → ℕ → Option Presence
  presence_of points n = presence_at file l.starts.six.0 l.bitmap points n

  abbrev pub data_of : Representation → Option Data
  data_of r = data_at file l.starts.seven.0 r

-- The description d of that field.
pub record Judged (file : List ℕ) (l : Located) (d : Description) : Type 0 where
  pub of_discipline : d.discipline ≡ discipline_at file l
  pub of_one : identification_of file l ≡ Some d.identification
  pub of_three : grid_of file l ≡ Some d.grid
  pub of_four : product_of file l d.identification.reference ≡ Some d.definition
  pub of_five : representation_of file l ≡ Some d.representation
  pub of_six : presence_of file l (points_of d.grid) d.representation.n ≡ Some d.presence
  pub of_seven : data_of file l d.representation ≡ Some d.plan
  pub of_starts : d.starts ≡ l.starts
