-- RULES, "Section 4": what a field is about, and of which time.
use Rattle.std.specs.Prelude.{ℕ, Bool, not, ◌&&◌, ◌||◌, cond, List, eqb, leb, ◌≡◌, Option, Some, None, Result, Ok, Err}
use Rattle.std.specs.declared.cmp.Ordering.{Ordering}
use Rattle.octets.specs.Places.{place_of}
use Rattle.section.specs.Sections.{octet, held, held_signed, length_at}
use Rattle.calendar.specs.declared.Time.{Time}
use Rattle.calendar.specs.declared.Unit.TheVariants as Unit
use Rattle.calendar.specs.Calendar.{time_at, plus, ordered}
use Rattle.section_4.specs.declared.Level.{Level}
use Rattle.section_4.specs.declared.Kind.{Kind}
use Rattle.section_4.specs.declared.Product.{Product}
use Rattle.section_4.specs.declared.UnknownKind.{UnknownKind}
use Rattle.section_4.specs.declared.ProductDefinition.{ProductDefinition}

-- Octets 8-9 hold the template: 0, an instant, in a section of 34 octets, or 8, an interval, in one of 58.
abbrev pub product_template_at : List ℕ → ℕ → ℕ
product_template_at file s = held file s 8 9

abbrev pub is_template : List ℕ → ℕ → Bool
is_template file s = (eqb (length_at file s) 34 && eqb (product_template_at file s) 0) || (eqb (length_at file s) 58 && eqb (product_template_at file s) 8)

-- No coordinates follow the template (octets 6-7), the forecast time of octets 19-22 is at most 2,147,483,647, there is a first surface
-- (octet 23), and there is no second (octets 29-34 are all ones).
abbrev pub is_product : List ℕ → ℕ → Bool
is_product file s =
    is_template file s
    && eqb (held file s 6 7) 0
    && leb (held file s 19 22) 2147483647
    && not (eqb (octet file s 23) 255)
    && eqb (held file s 29 34) 0xffff_ffff_ffff

-- The level of the first surface: factor and scaled level are both all ones, and there is none; or neither is, and the scaled level is at most
-- 2,147,483,647. The level is the scaled level over 10^factor.
abbrev pub stated_level : List ℕ → ℕ → Option (Option Level)
stated_level file s =
    cond (leb (held file s 25 28) 2147483647) (Some (Some (record { factor = held_signed file s 24 24; scaled = held file s 25 28 }))) None

abbrev pub level_at : List ℕ → ℕ → Option (Option Level)
level_at file s =
    cond (eqb (octet file s 24) 255)
    (cond (eqb (held file s 25 28) 0xffff_ffff) (Some None) None)
    (stated_level file s)

-- The time so many units after another. The units are 0 minute, 1 hour, 2 day; no time passes 2399.
abbrev pub later : Time → ℕ → ℕ → Option Time
later t count unit =
    cond (eqb unit 0) (plus t count Unit.Minute)
    (cond (eqb unit 1) (plus t count Unit.Hour)
    (cond (eqb unit 2) (plus t count Unit.Day)
    None))

-- The interval's end in octets 35-41 is the time that its length leads to, from the valid time on.
abbrev pub agreed : Time → Kind → Ordering → Option Product
agreed end kind Ordering.Equal = Some (Product.Interval end kind)
agreed end kind Ordering.Less = None
agreed end kind Ordering.Greater = None

abbrev pub ending : Kind → Option Time → Option Time → Option Product
ending kind (Some end) (Some t) = agreed end kind (ordered end t)
ending kind (Some end) None = None
ending kind None m = None

-- The kind that a number stands for: 0 mean, 1 sum, and no other. The conversion of a number gives it.
abbrev pub kind_of : ℕ → Result Kind UnknownKind
kind_of number = cond (eqb number 0) (Ok Kind.Mean) (cond (eqb number 1) (Ok Kind.Sum) (Err (record { 0 = number })))

abbrev pub GivesKind : ℕ → Result Kind UnknownKind → Type 0
GivesKind number kind = kind ≡ kind_of number

-- There is one range of time (octet 42), and the field is a mean over it or a sum (octet 47 is 0 or 1). Its length stands in octets 50-53, in
-- the unit of octet 49.
abbrev pub interval_of : List ℕ → ℕ → Time → Kind → Option Product
interval_of file s valid kind = ending kind (time_at file (place_of s 35)) (later valid (held file s 50 53) (octet file s 49))

abbrev pub interval_at : List ℕ → ℕ → Time → Option Product
interval_at file s valid =
    cond (eqb (octet file s 42) 1)
    (cond (eqb (octet file s 47) 0) (interval_of file s valid Kind.Mean)
    (cond (eqb (octet file s 47) 1) (interval_of file s valid Kind.Sum)
    None))
    None

-- A product is an instant, or an interval with its end and its kind.
abbrev pub product_at : List ℕ → ℕ → Time → Option Product
product_at file s valid = cond (eqb (product_template_at file s) 0) (Some Product.Instant) (interval_at file s valid)

-- Category, parameter and process kind stand in octets 10, 11 and 12, the first surface's type in octet 23.
abbrev pub defined_by : List ℕ → ℕ → Time → Option (Option Level) → Option Product → Option ProductDefinition
defined_by file s valid (Some level) (Some product) =
    Some
    (record {
      category = octet file s 10;
      parameter = octet file s 11;
      process = octet file s 12;
      surface = octet file s 23;
      level = level;
      product = product;
      valid = valid;
    })
defined_by file s valid (Some level) None = None
defined_by file s valid None p = None

-- The valid time is the reference time and the forecast, in the unit of octet 18.
abbrev pub defined_at : List ℕ → ℕ → Option Time → Option ProductDefinition
defined_at file s (Some valid) = defined_by file s valid (level_at file s) (product_at file s valid)
defined_at file s None = None

-- What the section 4 at s says, with its times counted from the reference time; or that it is not taken.
unfoldable pub product_definition_at : List ℕ → ℕ → Time → Option ProductDefinition
product_definition_at file s reference = cond (is_product file s) (defined_at file s (later reference (held file s 19 22) (octet file s 18))) None
