-- The times that the octets of section 4 lead to, and what the test of a product tells.
use Prim.Native.Nat.{ℕ}
use mathlib.Core.Path.{◌≡◌}
use mathlib.Core.Bool.{true}
use mathlib.Core.List.{List}
use Rattle.octets.proofs.Cases.{both}
use Rattle.section.specs.Sections.{octet, held}
use Rattle.calendar.specs.declared.Time.{Time}
use Rattle.section_4.specs.Product.{is_template, is_product, later}
use Rattle.std.specs.Prelude.{Option}

-- The time that the forecast leads to from the reference time on, and the one that the interval's length leads to from the valid time on.
abbrev pub valid_moment : List ℕ → ℕ → Time → Option Time
valid_moment file s reference = later reference (held file s 19 22) (octet file s 18)

abbrev pub end_moment : List ℕ → ℕ → Time → Option Time
end_moment file s valid = later valid (held file s 50 53) (octet file s 49)

-- A product has a template that is known.
pub product_template : (file : List ℕ) (s : ℕ) → is_product file s ≡ true → is_template file s ≡ true
product_template file s e = (both (is_template file s) _ (both _ _ (both _ _ (both _ _ e).0).0).0).0
