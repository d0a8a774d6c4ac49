-- RULES, "Examples on either side": whether a section is taken, as its reading tells; and how a row says which numbers a section may hold in some of its
-- octets.
use Rattle.std.specs.Prelude.{ℕ, ◌+◌, Bool, true, false, not, ◌&&◌, ◌≡◌, List, [], ◌∷◌, ◌++◌, Option, Some, None}
use Rattle.octets.specs.declared.Signed.{Signed}
use Rattle.octets.specs.Places.{at}
use Rattle.calendar.specs.declared.Time.{Time}
use Rattle.calendar.specs.Calendar.{date}
use Rattle.section_1.specs.Identification.{identification_at}
use Rattle.section_3.specs.Section3.{grid_at}
use Rattle.section_4.specs.Product.{later, product_definition_at}
use Rattle.section_5.specs.Representation.{representation_at}
use Rattle.section_5_groups.specs.declared.Grouping.{Grouping}
use Rattle.section_5.specs.declared.Template.{Template}
use Rattle.section_5.specs.declared.Representation.{Representation}
use Rattle.section_6.specs.Presence.{presence_at}
use Rattle.section_7.specs.Packing.{data_at}
use Rattle.theorems_limits.specs.Samples.{holding, start, in_file, sample1, sample3, sphere3, lambert3, lambert_sphere3, instant4, interval4, simple5, complex5, bitmap6, complex7}
use Rattle.octets.specs.declared.FilePlace.{FilePlace}
use Rattle.section_4.specs.declared.ProductDefinition.{ProductDefinition}
use Rattle.section_3_geometry.specs.declared.Grid.{Grid}
use Rattle.section_1.specs.declared.Identification.{Identification}
use Rattle.section_6.specs.declared.Presence.{Presence}
use Rattle.section_7.specs.declared.Data.{Data}

abbrev every : (ℕ → Bool) → List ℕ → Bool
every judged [] = true
every judged (number ∷ others) = judged number && every judged others

-- A row: with each number of the first list the section is taken, and with none of the second.
infix 10 ◌takes◌refuses◌
abbrev pub ◌takes◌refuses◌ : (ℕ → Bool) → List ℕ → List ℕ → Type 0
◌takes◌refuses◌ judged inside outside = every judged inside && every (λ number. not (judged number)) outside ≡ true

-- Times, and numbers with a sign.
abbrev pub clock : ℕ → ℕ → ℕ → ℕ → ℕ → ℕ → Time
clock year month day hour minute second = record { date = date year month day; hour = hour; minute = minute; second = second }

abbrev pub above : ℕ → Signed
above size = record { negative = false; size = size }

abbrev pub below : ℕ → Signed
below size = record { negative = true; size = size }

-- A number below zero, as four octets and as two hold it.
abbrev pub minus4 : ℕ → ℕ
minus4 size = 0x8000_0000 + size

abbrev pub minus2 : ℕ → ℕ
minus2 size = 0x8000 + size

-- Section 1, with another number in its octets from a to b, and with another date.
abbrev is_identified : Option Identification → Bool
is_identified (Some i) = true
is_identified None = false

abbrev taken1 : List ℕ → Bool
taken1 section = is_identified (identification_at (in_file section) start)

abbrev pub octets1 : ℕ → ℕ → ℕ → Bool
octets1 a b number = taken1 (holding a b number sample1)

abbrev pub dated : ℕ → ℕ → ℕ → Bool
dated year month day = taken1 (holding 13 14 year (holding 15 15 month (holding 16 16 day sample1)))

-- Section 3, with another number in its octets from a to b: on the earth of code 6, and on a sphere of its own radius.
abbrev is_gridded : Option Grid → Bool
is_gridded (Some g) = true
is_gridded None = false

abbrev taken3 : List ℕ → Bool
taken3 section = is_gridded (grid_at (in_file section) start)

abbrev pub octets3 : ℕ → ℕ → ℕ → Bool
octets3 a b number = taken3 (holding a b number sample3)

abbrev pub octets_sphere : ℕ → ℕ → ℕ → Bool
octets_sphere a b number = taken3 (holding a b number sphere3)

-- The same of a Lambert grid, and one of so many columns and rows.
abbrev pub octets_lambert : ℕ → ℕ → ℕ → Bool
octets_lambert a b number = taken3 (holding a b number lambert3)

abbrev pub octets_lambert_sphere : ℕ → ℕ → ℕ → Bool
octets_lambert_sphere a b number = taken3 (holding a b number lambert_sphere3)

abbrev pub sheeted : ℕ → ℕ → ℕ → Bool
sheeted columns rows points = taken3 (holding 7 10 points (holding 31 34 columns (holding 35 38 rows lambert3)))

-- A grid of so many columns and rows, all in one place, with steps of 0: the octets tell so many points.
abbrev one_place3 : List ℕ
one_place3 = holding 56 59 36000001 (holding 60 63 135000002 (holding 64 71 0 sample3))

abbrev heaped3 : ℕ → ℕ → ℕ → List ℕ
heaped3 columns rows points = holding 7 10 points (holding 31 34 columns (holding 35 38 rows one_place3))

abbrev pub heaped : ℕ → ℕ → ℕ → Bool
heaped columns rows points = taken3 (heaped3 columns rows points)

-- A grid of 2 x 2 points with steps of 0, which may be 1 off, from one latitude to another and from one longitude to another.
abbrev pub latitudes : ℕ → ℕ → Bool
latitudes first last = taken3 (holding 47 50 first (holding 56 59 last (heaped3 2 2 4)))

abbrev pub longitudes : ℕ → ℕ → Bool
longitudes first last = taken3 (holding 51 54 first (holding 60 63 last (heaped3 2 2 4)))

-- The sample's columns from another longitude on, to a last one; its rows from another latitude on, to a last one.
abbrev pub from_east : ℕ → ℕ → Bool
from_east first last = taken3 (holding 51 54 first (holding 60 63 last sample3))

abbrev pub from_north : ℕ → ℕ → Bool
from_north first last = taken3 (holding 47 50 first (holding 56 59 last sample3))

-- Section 4, of an instant and of an interval, with another number in its octets from a to b.
abbrev pub reference : Time
reference = clock 2017 5 15 12 30 45

abbrev is_defined : Option ProductDefinition → Bool
is_defined (Some d) = true
is_defined None = false

abbrev taken4 : List ℕ → Bool
taken4 section = is_defined (product_definition_at (in_file section) start reference)

abbrev pub octets4 : ℕ → ℕ → ℕ → Bool
octets4 a b number = taken4 (holding a b number instant4)

abbrev pub octets_interval : ℕ → ℕ → ℕ → Bool
octets_interval a b number = taken4 (holding a b number interval4)

-- The same with the factor 255, as where there is no level.
abbrev pub octets_levelless : ℕ → ℕ → ℕ → Bool
octets_levelless a b number = taken4 (holding a b number (holding 24 24 255 instant4))

-- A time so many minutes after 2399-12-31 23:30:00, where it is reached.
abbrev is_reached : Option Time → Bool
is_reached (Some t) = true
is_reached None = false

abbrev pub in_last_hour : ℕ → Bool
in_last_hour minutes = is_reached (later (clock 2399 12 31 23 30 0) minutes 0)

-- Section 5, by either template, with another number in its octets from a to b.
abbrev is_represented : Option Representation → Bool
is_represented (Some r) = true
is_represented None = false

abbrev taken5 : List ℕ → Bool
taken5 section = is_represented (representation_at (in_file section) start)

abbrev pub octets_simple : ℕ → ℕ → ℕ → Bool
octets_simple a b number = taken5 (holding a b number simple5)

abbrev pub octets_complex : ℕ → ℕ → ℕ → Bool
octets_complex a b number = taken5 (holding a b number complex5)

-- So many groups of so many values.
abbrev pub grouped5 : ℕ → ℕ → Bool
grouped5 groups n = taken5 (holding 6 9 n (holding 32 35 groups complex5))

-- Section 6 for so many points, of which n are present: with a bitmap of its own, and without one, after a section that has it.
abbrev is_marked : Option Presence → Bool
is_marked (Some p) = true
is_marked None = false

abbrev pub octets_bitmap : ℕ → ℕ → ℕ → ℕ → ℕ → Bool
octets_bitmap points n a b number = is_marked (presence_at (in_file (holding a b number bitmap6)) start None points n)

abbrev unmapped6 : List ℕ
unmapped6 = holding 1 4 6 (holding 6 6 254 bitmap6)

abbrev pub octets_unmapped : Option FilePlace → ℕ → ℕ → ℕ → ℕ → ℕ → Bool
octets_unmapped bitmap points n a b number = is_marked (presence_at (in_file (bitmap6 ++ holding a b number unmapped6)) (start + 8) bitmap points n)

abbrev pub the_bitmap : Option FilePlace
the_bitmap = Some (at start)

-- Section 7 by either template, for so many values of so many bits, with another length.
abbrev is_packed : Option Data → Bool
is_packed (Some d) = true
is_packed None = false

abbrev pub values_by : Template → ℕ → ℕ → Representation
values_by template n bits = record { n = n; r = 0; e = above 0; d = above 0; bits = bits; template = template }

-- The sample's three groups: the reference for their widths, the reference for their lengths, what a stored length is multiplied by, and the last length.
abbrev pub grouping7 : ℕ → ℕ → ℕ → ℕ → Grouping
grouping7 width length increment last =
    record {
      groups = 3;
      widths = record { reference = width; bits = 2 };
      lengths = record { reference = length; increment = increment; last = last; bits = 3 };
      extra = 2;
    }

abbrev pub taken7 : Template → ℕ → ℕ → ℕ → Bool
taken7 template n bits length = is_packed (data_at (in_file (holding 1 4 length complex7)) start (values_by template n bits))
