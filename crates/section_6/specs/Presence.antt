-- RULES, "Section 6": which points of a field are present.
use Rattle.std.specs.Prelude.{ℕ, zero, suc, ◌+◌, ◌≡◌, Bool, ◌&&◌, cond, List, [], eqb, ltb, take, drop, Option, Some, None}
use Rattle.octets.specs.Places.{at, place_of}
use Rattle.section.specs.Sections.{Lies, octet, length_at}
use Rattle.bits.specs.Bits.{bit_at, octets_of}
use Rattle.bits_ones.specs.Ones.{ones_before}
use Rattle.section_6.specs.declared.Presence as declared
use Rattle.section_6.specs.declared.Presence.{Presence}
use Rattle.octets.specs.declared.FilePlace.{FilePlace}

-- A bitmap has a bit for each point, from octet 7 of its section on. So the section's length is 6 octets and those of the bits.
abbrev pub bitmap_length : ℕ → ℕ
bitmap_length points = 6 + octets_of points

abbrev pub bitmap_in : List ℕ → ℕ → ℕ → List ℕ
bitmap_in file p points = take (octets_of points) (drop (place_of p 7) file)

-- The section 6 at p has a bitmap for so many points, of which n are present. The bit of a point is the bitmap's bit of that number, the top bit
-- first: 1 where the point is present.
abbrev pub is_bitmap : List ℕ → ℕ → ℕ → ℕ → Bool
is_bitmap file p points n = eqb (length_at file p) (bitmap_length points) && eqb (ones_before (bitmap_in file p points) points) n

-- Indicator 0: the section has a bitmap of its own.
abbrev pub own_at : List ℕ → ℕ → ℕ → ℕ → Option Presence
own_at file s points n = cond (is_bitmap file s points n) (Some (Presence.Own (at s))) None

-- Indicator 254: the latest bitmap of the grid is used again.
abbrev pub earlier_at : List ℕ → Option FilePlace → ℕ → ℕ → Option Presence
earlier_at file None points n = None
earlier_at file (Some p) points n = cond (is_bitmap file p.0 points n) (Some (Presence.Earlier p)) None

-- Indicator 255: all points are present.
abbrev pub all_of : ℕ → ℕ → Option Presence
all_of points n = cond (eqb points n) (Some Presence.All) None

-- The indicator is octet 6. A section of 5 octets has none.
abbrev pub without_bitmap : List ℕ → ℕ → Option FilePlace → ℕ → ℕ → Option Presence
without_bitmap file s bitmap points n =
    cond (eqb (octet file s 6) 254) (earlier_at file bitmap points n)
    (cond (eqb (octet file s 6) 255) (all_of points n)
    None)

-- What the section 6 at s says of so many points, of which n are to be present; or that it is not taken.
unfoldable pub presence_at : List ℕ → ℕ → Option FilePlace → ℕ → ℕ → Option Presence
presence_at file s bitmap points n =
    cond (ltb (length_at file s) 6) None
    (cond (eqb (octet file s 6) 0) (own_at file s points n)
    (cond (eqb (length_at file s) 6) (without_bitmap file s bitmap points n)
    None))

-- The bitmap indicator of each case.
abbrev pub indicator_of : declared.Presence → ℕ
indicator_of Presence.All = 255
indicator_of (Presence.Own p) = 0
indicator_of (Presence.Earlier p) = 254

-- Is point i present? 1 where it is, and else 0.
abbrev pub present_at : List ℕ → declared.Presence → ℕ → ℕ → ℕ
present_at file Presence.All points i = 1
present_at file (Presence.Own p) points i = bit_at (bitmap_in file p.0 points) i
present_at file (Presence.Earlier p) points i = bit_at (bitmap_in file p.0 points) i

-- How many of the first n points are present.
unfoldable pub present_before : List ℕ → declared.Presence → ℕ → ℕ → ℕ
present_before file p points zero = 0
present_before file p points (suc n) = present_before file p points n + present_at file p points n

-- The bitmap that tells which points are present: empty where all are, and then no section has it.
abbrev pub bitmap_in_force : List ℕ → declared.Presence → ℕ → List ℕ
bitmap_in_force file Presence.All points = []
bitmap_in_force file (Presence.Own p) points = bitmap_in file p.0 points
bitmap_in_force file (Presence.Earlier p) points = bitmap_in file p.0 points

-- The section 6 at p lies in the file, and has the length of one with a bitmap for so many points.
abbrev pub HasBitmap : List ℕ → ℕ → ℕ → Type 0
HasBitmap file p points = Lies file p × (length_at file p ≡ bitmap_length points)

-- So has the one that tells which points are present, where one does.
abbrev pub BitmapLies : List ℕ → declared.Presence → ℕ → Type 0
BitmapLies file Presence.All points = ◌≡◌ {A = ℕ} 0 0
BitmapLies file (Presence.Own p) points = HasBitmap file p.0 points
BitmapLies file (Presence.Earlier p) points = HasBitmap file p.0 points
