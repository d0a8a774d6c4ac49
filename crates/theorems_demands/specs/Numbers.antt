-- RULES, "A description" and "Where to use each form": where a description has an enum, the number of its case is what the octets of the field's
-- sections hold. These are the numbers by which the cases are told to whoever reads numbers alone.
use Rattle.std.specs.Prelude.{ℕ, ◌≡◌, cond, List, [], ◌∷◌, map, ℤ, pos, eqb, get_or}
use Rattle.octets.specs.Numbers.{whole}
use Rattle.calendar.specs.declared.Time.{Time}
use Rattle.section.specs.Sections.{octet, held, held_signed}
use Rattle.tiling_sections.specs.declared.Located.{Located}
use Rattle.section_3_geometry.specs.declared.LambertGrid.{LambertGrid}
use Rattle.section_3_geometry.specs.declared.Grid.TheVariants as Grid
use Rattle.section_3_geometry.specs.Geometry.{template_of}
use Rattle.section_4.specs.declared.Kind.{Kind}
use Rattle.section_4.specs.declared.Product.TheVariants as Product
use Rattle.section_5.specs.Representation.{template_number}
use Rattle.section_6.specs.Presence.{indicator_of}
use Rattle.question.specs.declared.Description.{Description}
use Rattle.question_numbers.specs.Numbers.{level_numbers, kind_number, product_numbers, numbers_of}

-- The three numbers of a level, by octets 24 and 25-28 of the section 4 at s. An octet 24 of all ones tells that there is none.
abbrev pub level_held : List ℕ → ℕ → List ℤ
level_held file s = cond (eqb (octet file s 24) 255) (map pos (0 ∷ 0 ∷ 0 ∷ [])) (pos 1 ∷ whole (held_signed file s 24 24) ∷ pos (held file s 25 28) ∷ [])

pub record InNumbers (file : List ℕ) (l : Located) (d : Description) : Type 0 where
  -- The kind of a grid is told by its template. The numbers of a Lambert grid have it before the others that it alone has.
  pub grid : template_of d.grid ≡ held file l.starts.three.0 13 14
  pub lambert : (g : LambertGrid) → d.grid ≡ Grid.Lambert g → get_or (numbers_of d) 53 (pos 0) ≡ pos (held file l.starts.three.0 13 14)
  -- The first number of a product is its template, and an interval's kind is octet 47.
  pub product : get_or (product_numbers d.definition.product) 0 (pos 0) ≡ pos (held file l.starts.four.0 8 9)
  pub kind : (end : Time) (kind : Kind) → d.definition.product ≡ Product.Interval end kind → kind_number kind ≡ octet file l.starts.four.0 47
  pub level : level_numbers d.definition.level ≡ level_held file l.starts.four.0
  pub template : template_number d.representation.template ≡ held file l.starts.five.0 10 11
  pub indicator : indicator_of d.presence ≡ octet file l.starts.six.0 6
