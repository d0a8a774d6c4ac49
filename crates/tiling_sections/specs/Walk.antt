-- RULES, "Tiling a file", step f: the sections from octet 17 of a message up to its last four octets.
use Rattle.std.specs.Prelude.{ℕ, ◌+◌, ◌-◌, List, [], ◌∷◌, ◌++◌, Bool, false, cond, ◌||◌, ◌&&◌, ltb, leb, eqb, length, get_or, Option, Some, None, Result, Ok, Err}
use Rattle.octets.specs.declared.FilePlace.{FilePlace}
use Rattle.octets.specs.Places.{at, place_of}
use Rattle.octets.specs.Numbers.{octet_at}
use Rattle.section.specs.Sections.{length_at, kind_at}
use Rattle.refusals.specs.declared.Refusal.{Refusal}
use Rattle.refusals.specs.declared.Why.{Why}
use Rattle.refusals.specs.Refusals.{refusal}
use Rattle.laws_machine.specs.Machine.{Next, go, stop, run}
use Rattle.tiling_sections.specs.declared.Starts.{Starts}
use Rattle.tiling_sections.specs.declared.Located.{Located}
use Rattle.tiling_sections.specs.declared.Walked.{Walked}
use Rattle.tiling_sections.specs.declared.Standing.{Standing}

-- Which number may follow which: 0 first, then 1, then 3 and 4 to 7 in turn; behind 7 the next field or the next grid begins.
abbrev pub follows : ℕ → ℕ → Bool
follows after n =
    cond (eqb after 0) (eqb n 1)
    (cond (eqb after 1) (eqb n 3)
    (cond (eqb after 3) (eqb n 4)
    (cond (eqb after 4) (eqb n 5)
    (cond (eqb after 5) (eqb n 6)
    (cond (eqb after 6) (eqb n 7)
    (cond (eqb after 7) (eqb n 3 || eqb n 4)
    false))))))

-- A section that stands where it may, by its number and the place behind it.
abbrev pub standing : ℕ → FilePlace → Standing
standing n q = record { number = n; next = q }

-- What stands at p, where the sections end at e and `after` is the number of the section before. At the end a field must be finished, else 6.
-- Before it, there must be room for a section's head, and the length must be one that holds the head and ends by e, else 5; and the number
-- must be one that may follow, else 6.
unfoldable pub section_at : List ℕ → ℕ → ℕ → ℕ → Result (Option Standing) Why
section_at file p e after =
    cond (eqb (e - p) 0)
    (cond (eqb after 7) (Ok None) (Err Why.OutOfPlace))
    (cond (ltb (e - p) 5) (Err Why.BadLength)
    (cond (ltb (length_at file p) 5) (Err Why.BadLength)
    (cond (ltb (e - p) (length_at file p)) (Err Why.BadLength)
    (cond (follows after (kind_at file p))
    (Ok (Some (standing (kind_at file p) (at (p + length_at file p)))))
    (Err Why.OutOfPlace)))))

-- RULES, "Section 6": the bitmap that indicator 254 refers to is the last one in its grid. A section 6 from p up to q has one where octet
-- 6, its indicator, is there and is 0.
abbrev pub bitmap_behind : List ℕ → Option FilePlace → ℕ → ℕ → Option FilePlace
bitmap_behind file bitmap p q = cond (leb 6 (q - p) && eqb (octet_at file (place_of p 6)) 0) (Some (at p)) bitmap

-- The bitmap in force behind a section numbered n, from p up to q.
unfoldable pub bitmap_after : List ℕ → Option FilePlace → ℕ → ℕ → ℕ → Option FilePlace
bitmap_after file bitmap n p q = cond (eqb n 3) None (cond (eqb n 6) (bitmap_behind file bitmap p q) bitmap)

-- The place where section n starts, among those of a field; and the starts that a place for each section makes.
abbrev pub section_start : Starts → ℕ → ℕ
section_start s n =
    cond (eqb n 0) s.zero.0
    (cond (eqb n 1) s.one.0
    (cond (eqb n 3) s.three.0
    (cond (eqb n 4) s.four.0
    (cond (eqb n 5) s.five.0
    (cond (eqb n 6) s.six.0
    s.seven.0)))))

abbrev pub starts_by : (ℕ → ℕ) → Starts
starts_by place = record { zero = at (place 0); one = at (place 1); three = at (place 3); four = at (place 4); five = at (place 5); six = at (place 6); seven = at (place 7) }

-- The starts in force behind a section numbered n that starts at p: its own is p, and the others are as before.
unfoldable pub starts_after : Starts → ℕ → ℕ → Starts
starts_after s n p = starts_by (λ i. cond (eqb n i) p (section_start s i))

-- Where nothing lies yet.
abbrev pub nowhere : Located
nowhere = record { starts = starts_by (λ _. 0); bitmap = None }

-- The walk over the sections, as a machine: where it has come to, the number of the section before that, the starts and the bitmap in force,
-- and the fields that are finished, in order.
pub record Walking : Type 0 where
  pub place : ℕ
  pub after : ℕ
  pub starts : Starts
  pub bitmap : Option FilePlace
  pub fields : List Located

-- What it finds of a message: the place behind it and its fields in order, or the first fault.
pub data InMessage : Type 0 where
  passed : ℕ → List Located → InMessage
  failed : Refusal → InMessage

-- The field that is finished by a section numbered n, from where the walk is up to q.
abbrev pub finished_by : List ℕ → Walking → ℕ → ℕ → Located
finished_by file w n q = record { starts = starts_after w.starts n w.place; bitmap = bitmap_after file w.bitmap n w.place q }

-- The walk, when it has passed that section.
abbrev pub took : List ℕ → Walking → ℕ → ℕ → Walking
took file w n q =
    record {
      place = q;
      after = n;
      starts = starts_after w.starts n w.place;
      bitmap = bitmap_after file w.bitmap n w.place q;
      fields = cond (eqb n 7) (w.fields ++ (finished_by file w n q ∷ [])) w.fields;
    }

-- A fault stands where the walk has come to. Behind the sections stand the message's last four octets.
abbrev pub stepped : List ℕ → ℕ → Walking → Result (Option Standing) Why → Next Walking InMessage
stepped file e w (Ok (Some s)) = go (took file w s.number s.next.0)
stepped file e w (Ok None) = stop (passed (e + 4) w.fields)
stepped file e w (Err why) = stop (failed (refusal why w.place))

abbrev pub section_step : List ℕ → ℕ → Walking → Next Walking InMessage
section_step file e w = stepped file e w (section_at file w.place e w.after)

abbrev pub walk_from : List ℕ → ℕ → Walking → InMessage
walk_from file e = run (section_step file e) (passed (e + 4) []) (λ w. e - w.place)

-- The message at p, whose sections stand behind the 16 octets of its section 0 and end at e.
abbrev pub entering : ℕ → Walking
entering p = record { place = p + 16; after = 0; starts = starts_after nowhere.starts 0 p; bitmap = None; fields = [] }

abbrev pub sections : List ℕ → ℕ → ℕ → InMessage
sections file p e = walk_from file e (entering p)

-- What is told of a message: how many fields, where the next message starts, and where the field lies that is looked for.
abbrev pub walked_of : ℕ → FilePlace → Located → Walked
walked_of n q hit = record { count = n; next = q; hit = hit }

-- The same as the code tells it: how many fields, where the next message starts, and where field k lies.
abbrev pub told : ℕ → InMessage → Result Walked Refusal
told k (passed q fields) = Ok (walked_of (length fields) (at q) (get_or fields k nowhere))
told k (failed r) = Err r
