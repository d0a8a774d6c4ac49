-- RULES, "One point" and "Refusals by number": the value of one point of a field, and what comes behind the refusals of describe.
use Rattle.std.specs.Prelude.{ℕ, cond, List, eqb, Option, Some, None, Result, Ok, Err, ⊤, Float}
use Rattle.refusals.specs.declared.Why.TheVariants as Why
use Rattle.refusals.specs.Refusals.{refusal}
use Rattle.doubles.specs.declared.Packing.{Packing}
use Rattle.doubles.specs.Doubles.{rebuilt}
use Rattle.values_complex.specs.Complex.{single_of}
use Rattle.question.specs.declared.Description.{Description}
use Rattle.question.specs.Describe.{describe}
use Rattle.question.specs.Judge.{integer_of}
use Rattle.question_decode.specs.Decoding.{packing_by, present_of, rank_of}
use Rattle.question_place.specs.Place.{point_asked}
use Rattle.refusals.specs.declared.Refusal.{Refusal}

-- The value of a point is told in one number.
abbrev pub point_length : ℕ
point_length = 1

-- The value of the point that has this integer, or 16 where that or one before it is out of its range. Section 7 starts at `seven`.
abbrev pub value_from : Packing → ℕ → Option ℕ → Result (Option Float) Refusal
value_from p seven (Some x) = Ok (Some (rebuilt p x))
value_from p seven None = Err (refusal Why.ValueOutOfRange seven)

-- The value of the point that is present behind m others: the integer numbered m is its own.
abbrev pub value_by : List ℕ → Description → ℕ → Result (Option Float) Refusal
value_by file d m = value_from (packing_by d.representation) d.starts.seven.0 (single_of (integer_of file d) m)

-- Point n of a field that has it: of a missing point no integer is looked at.
abbrev pub pointed_at : List ℕ → Description → ℕ → Result (Option Float) Refusal
pointed_at file d n = cond (eqb (present_of file d n) 1) (value_by file d (rank_of file d n)) (Ok None)

-- A point is asked, for a run of this length: 17 and 15 come before it.
abbrev pub point_if : List ℕ → Description → ℕ → Result ⊤ Refusal → Result (Option Float) Refusal
point_if file d n (Ok tt) = pointed_at file d n
point_if file d n (Err r) = Err r

abbrev pub point_asked_of : List ℕ → ℕ → ℕ → Description → Result (Option Float) Refusal
point_asked_of file n room d = point_if file d n (point_asked n point_length room d.grid)

abbrev pub pointed_by : List ℕ → ℕ → ℕ → Result Description Refusal → Result (Option Float) Refusal
pointed_by file n room (Ok d) = point_asked_of file n room d
pointed_by file n room (Err r) = Err r

-- The question, where C lends a run of this length; and where the answer that is handed back has its own room.
abbrev pub point_into : List ℕ → ℕ → ℕ → ℕ → Result (Option Float) Refusal
point_into file k n room = pointed_by file n room (describe file k)

abbrev pub point : List ℕ → ℕ → ℕ → Result (Option Float) Refusal
point file k n = point_into file k n point_length
