-- RULES, "How strong each statement is": readers that would satisfy weaker statements of skeptolyr_picture. Each of these is any function that meets the contract
-- for every input, and yet does as the impostor does: there is none.
use Rattle.std.specs.Prelude.{ℕ, ◌^◌, ◌≤◌, ◌<◌, ◌≡◌, List, length, get_or, Ok}
use Rattle.section_3_geometry.specs.Geometry.{frame_of}
use Rattle.question.specs.declared.Description.{Description}
use Rattle.question.specs.Describe.{describe}
use Rattle.question_decode.specs.Decoding.{answer}
use Rattle.question_picture.specs.Picture.{picture_length, pictured, run_left}
use Rattle.skeptolyr.specs.Codes.{decode_code, picture_code}
use Rattle.theorems_calls.specs.PointImpostors.{RefusedByDecode}

-- What a call leaves: its answer, and the run.
pub record Printed : Type 0 where
  pub answer : ℕ
  pub run : List ℕ

abbrev pub printed : List ℕ → ℕ → List ℕ → Printed
printed file k run = record { answer = picture_code (pictured file k (length run)); run = run_left file k run }

-- A function that draws a field, and that it meets its contract.
abbrev pub Drawer : Type 0
Drawer = List ℕ → ℕ → List ℕ → Printed

abbrev pub MeetsPicture : Drawer → Type 0
MeetsPicture f = (file : List ℕ) (k : ℕ) (run : List ℕ) → f file k run ≡ printed file k run

-- What no function does that meets the contract of skeptolyr_picture.
pub record NoImpostorForPicture : Type 0 where
  -- One that answers a length and puts nothing, and one that draws field 0 for every field that it draws.
  pub draws_nothing : (f : Drawer) → MeetsPicture f → ((file : List ℕ) (k : ℕ) (run : List ℕ) → (f file k run).run ≡ run) → ⊥
  pub draws_field_0 : (f : Drawer) → MeetsPicture f → ((file : List ℕ) (k : ℕ) (run : List ℕ) → (f file k run).answer < 2 ^ 63 → f file k run ≡ f file 0 run) → ⊥
  -- One that draws no point black, and one that draws none white.
  pub draws_none_black : (f : Drawer) → MeetsPicture f → ((file : List ℕ) (k : ℕ) (run : List ℕ) (i : ℕ) → i < (f file k run).answer → (f file k run).answer < 2 ^ 63 → 1 ≤ get_or (f file k run).run i 0) → ⊥
  pub draws_none_white : (f : Drawer) → MeetsPicture f → ((file : List ℕ) (k : ℕ) (run : List ℕ) (i : ℕ) → i < (f file k run).answer → (f file k run).answer < 2 ^ 63 → get_or (f file k run).run i 0 ≤ 254) → ⊥
  -- One that refuses with 16 before it looks at the length of the run, and one that draws every field that is described, and so never refuses with 16.
  pub looks_at_integers_first :
      (f : Drawer) → MeetsPicture f →
      ((file : List ℕ) (k : ℕ) (run : List ℕ) → RefusedByDecode file k → (f file k run).answer ≡ decode_code (answer file k 0 16777216 16777216)) → ⊥
  pub draws_every_field :
      (f : Drawer) → MeetsPicture f →
      ((file : List ℕ) (k : ℕ) (d : Description) (run : List ℕ) → describe file k ≡ Ok d → picture_length (frame_of d.grid) ≤ length run → (f file k run).answer < 2 ^ 63) → ⊥
