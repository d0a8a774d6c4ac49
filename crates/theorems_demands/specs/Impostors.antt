-- RULES, "How strong each statement is": readers that would satisfy weaker statements. Each of these is any function that meets the contract of check or
-- of decode for every input, and yet does as the impostor does: there is none.
use Rattle.std.specs.Prelude.{ℕ, ◌≡◌, List, Float, Result, Ok, Err}
use Rattle.refusals.specs.declared.Refusal.{Refusal}
use Rattle.tiling.specs.Tiling.{check, both_counts}
use Rattle.theorems_demands.specs.Demand2.{BothRuns, Call, answer_to, left_behind}
use Rattle.tiling.specs.declared.Counts.{Counts}

-- A checker, and that it meets the contract of check.
abbrev pub Checker : Type 0
Checker = List ℕ → Result Counts Refusal

abbrev pub MeetsCheck : Checker → Type 0
MeetsCheck checker = (file : List ℕ) → checker file ≡ check file

-- What a call of decode leaves: its answer, and both runs.
pub record Left : Type 0 where
  pub answer : Result ℕ Refusal
  pub runs : BothRuns

-- A decoder, and that it meets the contract of decode.
abbrev pub Decoder : Type 0
Decoder = List ℕ → ℕ → ℕ → List Float → List ℕ → Left

abbrev pub left_by : Decoder
left_by file k start values presence =
    let call : Call = record { k = k; start = start; before = record { values = values; presence = presence } } in
    record { answer = answer_to file call; runs = left_behind file call }

abbrev pub MeetsDecode : Decoder → Type 0
MeetsDecode decoder = (file : List ℕ) (k start : ℕ) (values : List Float) (presence : List ℕ) → decoder file k start values presence ≡ left_by file k start values presence

-- What no function does that meets the contract of check, or of decode.
pub record NoImpostor : Type 0 where
  -- One that refuses every file.
  pub refuses_every_file : (c : Checker) → MeetsCheck c → ((file : List ℕ) → (r : Refusal) × (c file ≡ Err r)) → ⊥
  -- One that invents the field count: it is the same for all files that it takes.
  pub invents_the_count : (c : Checker) → MeetsCheck c → (n : ℕ) → ((file : List ℕ) (messages fields : ℕ) → c file ≡ Ok (both_counts messages fields) → fields ≡ n) → ⊥
  -- One that returns the same field each time, whatever the file and k are.
  pub returns_one_field :
      (d : Decoder) → MeetsDecode d →
      ((file other : List ℕ) (k l start n m : ℕ) (values : List Float) (presence : List ℕ) →
      (d file k start values presence).answer ≡ Ok n → (d other l start values presence).answer ≡ Ok m →
      (d file k start values presence).runs.values ≡ (d other l start values presence).runs.values) → ⊥
  -- One that writes nothing.
  pub writes_nothing : (d : Decoder) → MeetsDecode d → ((file : List ℕ) (k start : ℕ) (values : List Float) (presence : List ℕ) → (d file k start values presence).runs.values ≡ values) → ⊥
  pub marks_nothing : (d : Decoder) → MeetsDecode d → ((file : List ℕ) (k start : ℕ) (values : List Float) (presence : List ℕ) → (d file k start values presence).runs.presence ≡ presence) → ⊥
  -- One that decodes field 0 and repeats it for later k.
  pub repeats_field_0 :
      (d : Decoder) → MeetsDecode d →
      ((file : List ℕ) (k start n : ℕ) (values : List Float) (presence : List ℕ) → (d file k start values presence).answer ≡ Ok n → (d file k start values presence).runs.values ≡ (d file 0 start values presence).runs.values) → ⊥
