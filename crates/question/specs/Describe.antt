-- RULES, "A description" and "Refusals by number": the question describe. The sections are judged in the order of their refusals, 9 to 14,
-- and the first fault is the answer.
use Rattle.std.specs.Prelude.{ℕ, cond, List, ltb, length, get_or, Option, Some, None, Result, Ok, Err}
use Rattle.section.specs.Sections.{octet}
use Rattle.refusals.specs.declared.Why.{Why}
use Rattle.refusals.specs.Refusals.{refusal}
use Rattle.tiling_sections.specs.declared.Located.{Located}
use Rattle.tiling_sections.specs.Walk.{nowhere}
use Rattle.tiling.specs.Tiling.{InFile, tiling_of}
use Rattle.tiling.specs.Tiling as Tiling
use Rattle.section_1.specs.declared.Identification.{Identification}
use Rattle.section_1.specs.Identification.{identification_at}
use Rattle.section_3_geometry.specs.declared.Grid.{Grid}
use Rattle.section_3_geometry.specs.Geometry.{points_of}
use Rattle.section_3.specs.Section3.{grid_at}
use Rattle.section_4.specs.declared.ProductDefinition.{ProductDefinition}
use Rattle.section_4.specs.Product.{product_definition_at}
use Rattle.section_5.specs.declared.Representation.{Representation}
use Rattle.section_5.specs.Representation.{representation_at}
use Rattle.section_6.specs.declared.Presence.{Presence}
use Rattle.section_6.specs.Presence.{presence_at}
use Rattle.section_7.specs.Packing.{data_at}
use Rattle.question.specs.declared.Description.{Description}
use Rattle.refusals.specs.declared.Refusal.{Refusal}
use Rattle.section_7.specs.declared.Data.{Data}

-- The discipline is octet 7 of section 0.
abbrev pub discipline_at : List ℕ → Located → ℕ
discipline_at file l = octet file l.starts.zero.0 7

-- A refusal at a place, as the answer.
abbrev pub refused_at : Why → ℕ → Result Description Refusal
refused_at why p = Err (refusal why p)

module _ (file : List ℕ) (l : Located) where
  -- Section 7 comes last: 14, or the description.
  abbrev pub packed : Identification → Grid → ProductDefinition → Representation → Presence → Option Data → Result Description Refusal
  packed i g d r p (Some plan) =
      Ok
      (record {
        discipline = discipline_at file l;
        identification = i;
        grid = g;
        definition = d;
        representation = r;
        presence = p;
        plan = plan;
        starts = l.starts;
      })
  packed i g d r p None = refused_at Why.BadPacking l.starts.seven.0

  -- Section 6: 13.
  abbrev pub marked : Identification → Grid → ProductDefinition → Representation → Option Presence → Result Description Refusal
  marked i g d r (Some p) = packed i g d r p (data_at file l.starts.seven.0 r)
  marked i g d r None = refused_at Why.BadBitmap l.starts.six.0

  -- Section 5: 12.
  abbrev pub represented : Identification → Grid → ProductDefinition → Option Representation → Result Description Refusal
  represented i g d (Some r) = marked i g d r (presence_at file l.starts.six.0 l.bitmap (points_of g) r.n)
  represented i g d None = refused_at Why.BadRepresentation l.starts.five.0

  -- Section 4: 11.
  abbrev pub defined : Identification → Grid → Option ProductDefinition → Result Description Refusal
  defined i g (Some d) = represented i g d (representation_at file l.starts.five.0)
  defined i g None = refused_at Why.BadProduct l.starts.four.0

  -- Section 3: 10.
  abbrev pub gridded : Identification → Option Grid → Result Description Refusal
  gridded i (Some g) = defined i g (product_definition_at file l.starts.four.0 i.reference)
  gridded i None = refused_at Why.BadGrid l.starts.three.0

  -- Section 1: 9.
  abbrev pub identified : Option Identification → Result Description Refusal
  identified (Some i) = gridded i (grid_at file l.starts.three.0)
  identified None = refused_at Why.BadIdentification l.starts.one.0

  unfoldable pub described_at : Result Description Refusal
  described_at = identified (identification_at file l.starts.one.0)

-- Before all of them come 1 to 7, and 8 where k is not below the field count.
abbrev pub field_in : List ℕ → ℕ → InFile → Result Description Refusal
field_in file k (Tiling.tiled m fields) = cond (ltb k (length fields)) (described_at file (get_or fields k nowhere)) (refused_at Why.NoSuchField 0)
field_in file k (Tiling.refused r) = Err r

-- The question describe.
abbrev pub describe : List ℕ → ℕ → Result Description Refusal
describe file k = field_in file k (tiling_of file)
