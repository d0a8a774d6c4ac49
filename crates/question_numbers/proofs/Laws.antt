-- How many numbers the pieces of a description are.
use mathlib.Core.Path.{◌≡◌, refl, ap, ◌∙◌}
use Prim.Native.Nat.{ℕ, ◌+◌}
use native.Mathlib.Omega.{arith}
use lib.ListN.{length, length-append}
use Rattle.section_3_geometry.specs.declared.Grid.{Grid}
use Rattle.section_4.specs.declared.Level.{Level}
use Rattle.section_4.specs.declared.Product.{Product}
use Rattle.section_4.specs.declared.ProductDefinition.{ProductDefinition}
use Rattle.question.specs.declared.Description.{Description}
use Rattle.question.specs.Judge.{description_length}
use Rattle.std.specs.Prelude.{Option, Some, None}
use Rattle.question_numbers.specs.Numbers.{degree_numbers, lambert_numbers, level_numbers, product_numbers, definition_numbers, field_numbers, shared_numbers, numbers_of}

-- Every level has three numbers, and every product eight.
pub level_length : (level : Option Level) → length (level_numbers level) ≡ 3
level_length None = refl
level_length (Some level) = refl

pub product_length : (product : Product) → length (product_numbers product) ≡ 8
product_length Product.Instant = refl
product_length (Product.Interval end kind) = refl

-- Every grid has eleven numbers where both kinds have theirs, and a Lambert grid has seven more.
pub degrees_length : (g : Grid) → length (degree_numbers g) ≡ 6
degrees_length (Grid.Degrees g) = refl
degrees_length (Grid.Lambert g) = refl

pub lambert_length_lem : (g : Grid) → 53 + length (lambert_numbers g) ≡ description_length g
lambert_length_lem (Grid.Degrees g) = refl
lambert_length_lem (Grid.Lambert g) = refl

-- So what section 4 says is 21 numbers, what sections 0, 1, 3 and 4 say is 40, and a description has as many as the kind of its grid asks for.
pub definition_length : (d : ProductDefinition) → length (definition_numbers d) ≡ 21
definition_length d = simp length-append (omega (arith, level_length d.level, product_length d.product))

pub field_length : (d : Description) → length (field_numbers d) ≡ 40
field_length d = simp length-append (omega (arith, degrees_length d.grid, level_length d.definition.level, product_length d.definition.product))

pub shared_length : (d : Description) → length (shared_numbers d) ≡ 53
shared_length d = simp length-append (omega (arith, degrees_length d.grid, level_length d.definition.level, product_length d.definition.product))

pub description_length_lem : (d : Description) → length (numbers_of d) ≡ description_length d.grid
description_length_lem d = length-append (shared_numbers d) (lambert_numbers d.grid) ∙ ap (λ (n : ℕ). n + length (lambert_numbers d.grid)) (shared_length d) ∙ lambert_length_lem d.grid
