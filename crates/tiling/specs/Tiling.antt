-- RULES, "Tiling a file", and refusals 1 to 7: how messages tile a file, and where its fields are.
use Rattle.std.specs.Prelude.{ℕ, ◌+◌, ◌-◌, List, [], ◌++◌, cond, not, ltb, eqb, length, get_or, Result, Ok, Err}
use Rattle.octets.specs.declared.FilePlace.{FilePlace}
use Rattle.octets.specs.Places.{place_of, at}
use Rattle.octets.specs.Numbers.{number_at}
use Rattle.refusals.specs.declared.Refusal.{Refusal}
use Rattle.refusals.specs.declared.Why.{Why}
use Rattle.refusals.specs.Refusals.{refusal}
use Rattle.laws_machine.specs.Machine.{Next, go, stop, run}
use Rattle.tiling_sections.specs.declared.Located.{Located}
use Rattle.tiling_sections.specs.Walk.{InMessage, passed, failed, nowhere, sections}
use Rattle.tiling.specs.declared.Counts.{Counts}
use Rattle.tiling.specs.declared.Tiled.{Tiled}

-- The largest file that is taken.
abbrev pub largest : ℕ
largest = 268435456

-- The octets "GRIB", and the octets "7777", each as a number of four octets.
abbrev pub grib : ℕ
grib = 0x4752_4942

abbrev pub sevens : ℕ
sevens = 0x3737_3737

-- Of the message at p: octets 1-4, octet 8, the stated length in octets 9-16, and its last four octets.
abbrev pub opening_at : List ℕ → ℕ → ℕ
opening_at file p = number_at file (place_of p 1) 4

abbrev pub edition_at : List ℕ → ℕ → ℕ
edition_at file p = number_at file (place_of p 8) 1

abbrev pub stated_at : List ℕ → ℕ → ℕ
stated_at file p = number_at file (place_of p 9) 8

abbrev pub closing_at : List ℕ → ℕ → ℕ
closing_at file p = number_at file (p + (stated_at file p - 4)) 4

-- Steps a to e at p: where the sections of the message end, or the first fault.
unfoldable pub header_at : List ℕ → ℕ → Result FilePlace Why
header_at file p =
    cond (ltb (length file - p) 16) (Err Why.Cut)
    (cond (not (eqb (opening_at file p) grib)) (Err Why.NotGrib2)
    (cond (not (eqb (edition_at file p) 2)) (Err Why.NotGrib2)
    (cond (ltb (stated_at file p) 20) (Err Why.BadLength)
    (cond (ltb (length file - p) (stated_at file p)) (Err Why.Cut)
    (cond (not (eqb (closing_at file p) sevens)) (Err Why.NoEnd)
    (Ok (at (p + (stated_at file p - 4)))))))))

-- The message at p: the place behind it and its fields, or the first fault of steps a to f.
abbrev pub entered : List ℕ → ℕ → Result FilePlace Why → InMessage
entered file p (Ok e) = sections file p e.0
entered file p (Err why) = failed (refusal why p)

unfoldable pub message : List ℕ → ℕ → InMessage
message file p = entered file p (header_at file p)

-- The reading of a file, as a machine: the place of the next message, and the messages and the fields before it.
pub record SoFar : Type 0 where
  pub place : ℕ
  pub messages : ℕ
  pub fields : List Located

-- What it finds of a file: how many messages, and the fields in order; or the first fault.
pub data InFile : Type 0 where
  tiled : ℕ → List Located → InFile
  refused : Refusal → InFile

abbrev pub met : SoFar → InMessage → Next SoFar InFile
met r (passed q fields) = go (record { place = q; messages = r.messages + 1; fields = r.fields ++ fields })
met r (failed f) = stop (refused f)

-- Messages follow one another without a gap, and the last ends with the file.
abbrev pub file_step : List ℕ → SoFar → Next SoFar InFile
file_step file r = cond (ltb r.place (length file)) (met r (message file r.place)) (stop (tiled r.messages r.fields))

abbrev pub read_from : List ℕ → SoFar → InFile
read_from file = run (file_step file) (tiled 0 []) (λ r. length file - r.place)

abbrev pub tiles : List ℕ → InFile
tiles file = read_from file (record { place = 0; messages = 0; fields = [] })

-- The whole file: refusals 1 and 2, then the tiling.
abbrev pub tiling_of : List ℕ → InFile
tiling_of file = cond (ltb largest (length file)) (refused (refusal Why.TooLong 0)) (cond (eqb (length file) 0) (refused (refusal Why.Empty 0)) (tiles file))

-- What is told of a file: its messages, its fields, and where the field lies that is looked for.
abbrev pub tiled_of : ℕ → ℕ → Located → Tiled
tiled_of m n hit = record { messages = m; fields = n; hit = hit }

-- The same as the code tells it, with the place of field k.
abbrev pub found_in : ℕ → InFile → Result Tiled Refusal
found_in k (tiled m fields) = Ok (tiled_of m (length fields) (get_or fields k nowhere))
found_in k (refused r) = Err r

abbrev pub find : List ℕ → ℕ → Result Tiled Refusal
find file k = found_in k (tiling_of file)

-- The counts of messages and fields.
abbrev pub both_counts : ℕ → ℕ → Counts
both_counts m n = record { messages = m; fields = n }

-- The question check: both counts.
abbrev pub checked : InFile → Result Counts Refusal
checked (tiled m fields) = Ok (both_counts m (length fields))
checked (refused r) = Err r

abbrev pub check : List ℕ → Result Counts Refusal
check file = checked (tiling_of file)
