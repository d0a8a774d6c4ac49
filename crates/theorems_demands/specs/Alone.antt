-- RULES, "One point": what is answered of one point of a field alone, and that it is what decode writes for it.
use Rattle.std.specs.Prelude.{ℕ, ◌≤◌, ◌≡◌, true, false, List, ◌↔◌, pos, Float, Option, Some, None, Result, Ok, Err}
use Rattle.std.specs.Float.{fin}
use Rattle.refusals.specs.declared.Why.TheVariants as Why
use Rattle.refusals.specs.Refusals.{refusal}
use Rattle.doubles.specs.Doubles.{is_in_range, value_of}
use Rattle.question.specs.declared.Description.{Description}
use Rattle.question.specs.Judge.{integer_of}
use Rattle.question_decode.specs.Decoding.{present_of, rank_of}
use Rattle.refusals.specs.declared.Refusal.{Refusal}

-- A point that is present: as many points are present before it as integers are packed before its own, which is the standard's X, in its range; and the
-- double that is told is that of R, E, D and X.
pub record Present (file : List ℕ) (d : Description) (i : ℕ) (told : Float) : Type 0 where
  pub x : ℕ
  pub standard : integer_of file d (rank_of file d i) ≡ pos x
  pub in_range : x ≤ 2147483647
  pub double : told ≡ value_of d.representation.r d.representation.e d.representation.d x

-- X(1) to X(m) are in their range, where X(m) is the integer of point n.
abbrev pub UpToOwn : List ℕ → Description → ℕ → Type 0
UpToOwn file d n = (j : ℕ) → j ≤ rank_of file d n → is_in_range (integer_of file d j) ≡ true

-- What is answered of point n of the field that d describes, whatever its integers behind the point's own are. A missing point is missing. A point that is present has
-- its value exactly where X is in its range up to that point, and is refused with 16, at section 7, exactly where it is not.
pub record Alone (file : List ℕ) (d : Description) (n : ℕ) (answer : Result (Option Float) Refusal) : Type 0 where
  pub missing : (answer ≡ Ok None) ↔ (present_of file d n ≡ 0)
  pub stands : present_of file d n ≡ 1 → ((v : Float) × (answer ≡ Ok (Some v))) ↔ UpToOwn file d n
  pub refused : present_of file d n ≡ 1 → (answer ≡ Err (refusal Why.ValueOutOfRange d.starts.seven.0)) ↔ (UpToOwn file d n → ⊥)
  pub value : (v : Float) → answer ≡ Ok (Some v) → Present file d n v

-- It agrees with the two elements that decode writes for the point, mark and double alike.
pub data Agrees : Result (Option Float) Refusal → (written : Float) (mark : ℕ) → Type 0 where
  both_present : {v : Float} → Agrees (Ok (Some v)) v 1
  both_missing : Agrees (Ok None) (fin false 0 (pos 0)) 0
