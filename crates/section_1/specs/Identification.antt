-- RULES, "Section 1": who wrote a message, whether it is a trial, and the time that its forecasts start from.
use Rattle.std.specs.Prelude.{ℕ, Bool, ◌&&◌, cond, List, eqb, leb, Option, Some, None}
use Rattle.octets.specs.Places.{place_of}
use Rattle.section.specs.Sections.{octet, held, length_at}
use Rattle.calendar.specs.Calendar.{time_at}
use Rattle.section_1.specs.declared.Identification.{Identification}
use Rattle.calendar.specs.declared.Time.{Time}

-- The length is 21; the centre, in octets 6-7, is 34, which is JMA in Tokyo; the time is that of the forecast's start (octet 12 is 1); the
-- status, octet 20, is operational (0) or a trial (1).
abbrev pub is_identification : List ℕ → ℕ → Bool
is_identification file s = eqb (length_at file s) 21 && eqb (held file s 6 7) 34 && eqb (octet file s 12) 1 && leb (octet file s 20) 1

-- Octets 13-19 hold a time of the calendar.
abbrev pub timed : List ℕ → ℕ → Option Time → Option Identification
timed file s (Some t) = Some (record { status = octet file s 20; reference = t })
timed file s None = None

-- What the section 1 at s says, or that it is not taken.
unfoldable pub identification_at : List ℕ → ℕ → Option Identification
identification_at file s = cond (is_identification file s) (timed file s (time_at file (place_of s 13))) None
