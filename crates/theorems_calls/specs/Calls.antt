-- The demands of the functions that users call, in the numbers that they are given: what C learns from the one number of each of its functions and from the
-- runs that they leave, and what the listing puts.
use Rattle.std.specs.Prelude.{ℕ, suc, ◌+◌, ◌*◌, ◌^◌, ◌≤◌, ◌<◌, ◌≡◌, List, [], ◌∷◌, ◌++◌, Float, length, get_or, ℤ, pos, Option, Some, None, Ok}
use Rattle.std.specs.Float.{nan}
use Rattle.tiling_sections.specs.declared.Located.{Located}
use Rattle.theorems_grammar.specs.Grammar.{Accepted}
use Rattle.section_3_geometry.specs.declared.Position.{Position}
use Rattle.section_3_geometry.specs.declared.DegreeGrid.{DegreeGrid}
use Rattle.section_3_geometry.specs.declared.LambertGrid.{LambertGrid}
use Rattle.section_3_geometry.specs.declared.Grid.{Grid}
use Rattle.section_3_geometry.specs.Geometry.{frame_of, points_of}
use Rattle.section_3_positions.specs.Positions.{LiesAt}
use Rattle.section_3_lambert.specs.Sheet.{sheet_of}
use Rattle.question.specs.declared.Description.{Description}
use Rattle.question.specs.Judge.{integer_of}
use Rattle.question.specs.Judged.{Judged}
use Rattle.question_decode.specs.Decoding.{rank_of}
use Rattle.laws_rows.specs.Rows.{laid, Puts}
use Rattle.text.specs.Text.{ascii, decimal}
use Rattle.listing_lines.specs.Lines.{field_text}
use Rattle.listing_file.specs.declared.Printout.{Printout}
use Rattle.listing_file.specs.Listing.{ReadFrom, unreadable_text, descriptor_of}
use Rattle.question_numbers.specs.Numbers.{position_numbers, sheet_numbers, numbers_of}
use Rattle.theorems_demands.specs.Questions.{Question, check, describe, decode, picture, describe_into, place_into, sheet_into, point_into}
use Rattle.theorems_demands.specs.Demand1.{FieldAt, Applies, First}
use Rattle.theorems_demands.specs.Demand2.{Point, BothRuns, value_in, mark_in, Call, Decodes, answer_to, left_behind}
use Rattle.theorems_demands.specs.Pictured.{octet_in, Draws, AsSeen}
use Rattle.theorems_demands.specs.Demand3.{RebuiltNear, AllNear}
use Rattle.theorems_calls.specs.Promises.{Promises}
use Rattle.tiling.specs.Tiling as Tiling
use Rattle.tiling.specs.contracts as tiling
use Rattle.question.specs.Describe as Describe
use Rattle.question.specs.contracts as question
use Rattle.question_place.specs.Place as Place
use Rattle.question_place.specs.contracts as question_place
use Rattle.question_decode.specs.contracts as question_decode
use Rattle.question_point.specs.Point as Single
use Rattle.question_point.specs.contracts as question_point
use Rattle.question_picture.specs.Picture.{picture_length}
use Rattle.question_picture.specs.Picture as Picture
use Rattle.question_picture.specs.contracts as question_picture
use Rattle.doubles.specs.Doubles.{rebuild_one}
use Rattle.doubles.specs.contracts as doubles
use Rattle.skeptolyr.specs.contracts as skeptolyr
use Rattle.listing_file.specs.contracts as listing

-- RULES, "What C is given": a refusal is 2^63 + number x 2^32 + place, from which number and place can be taken again. It is the first that applies.
pub record Refuses (file : List ℕ) (q : Question) (code : ℕ) : Type 0 where
  pub number : ℕ
  pub place : ℕ
  pub first : First file q number place
  pub told : code ≡ 2 ^ 63 + number * 2 ^ 32 + place
  pub fits : (number < 2 ^ 31) × (place < 2 ^ 32)

-- A file that is accepted is messages x 2^32 + fields, and both can be taken again.
pub record Accepts (file : List ℕ) (code : ℕ) : Type 0 where
  pub messages : ℕ
  pub fields : List Located
  pub accepted : Accepted file messages fields
  pub told : code ≡ messages * 2 ^ 32 + length fields
  pub fits : (messages < 2 ^ 31) × (length fields < 2 ^ 32)

-- What a call of skeptolyr_check has answered of a file. The top bit tells which it is.
pub record Checks (file : List ℕ) (code : ℕ) : Type 0 where
  pub refused : 2 ^ 63 ≤ code → Refuses file check code
  pub accepted : code < 2 ^ 63 → Accepts file code

abbrev pub decode_of : Call → Question
decode_of c = decode c.k c.start (length c.before.values) (length c.before.presence)

-- What a call of skeptolyr_decode has answered, and the two runs that it has left.
pub record DecodeKeeps (file : List ℕ) (c : Call) (code : ℕ) (left : BothRuns) : Type 0 where
  -- Demand 1: it is refused, and no element is altered, or no refusal applies.
  pub refused : 2 ^ 63 ≤ code → Refuses file (decode_of c) code × (left ≡ c.before)
  pub answered : code < 2 ^ 63 → (number place : ℕ) → Applies file (decode_of c) number place → ⊥
  -- Demand 2: the points of field k, and their count.
  pub decoded : code < 2 ^ 63 → (d : Description) × Decodes file c left d × (points_of d.grid ≡ code)
  -- Demand 3: how near each double is.
  pub near : code < 2 ^ 63 → (d : Description) → Decodes file c left d → AllNear file c left d

-- What a call of skeptolyr_describe has answered, and the run of numbers that it has left.
pub record DescribeKeeps (file : List ℕ) (k : ℕ) (before : List ℤ) (code : ℕ) (left : List ℤ) : Type 0 where
  -- Demand 1: it is refused, and no number is altered, or no refusal applies.
  pub refused : 2 ^ 63 ≤ code → Refuses file (describe_into k (length before)) code × (left ≡ before)
  pub answered : code < 2 ^ 63 → (number place : ℕ) → Applies file (describe_into k (length before)) number place → ⊥
  -- Demand 2: the numbers of the description of field k stand at the run's start, all else is as it was, and their count is the answer.
  pub described : code < 2 ^ 63 → (l : Located) × (d : Description) × FieldAt file k l × Judged file l d × Puts before 0 (numbers_of d) left code

-- Field k lies in the file, its sections in force are taken, this is its grid, and it has point n.
pub record OnGrid (file : List ℕ) (k n : ℕ) (g : Grid) : Type 0 where
  pub l : Located
  pub d : Description
  pub lies : FieldAt file k l
  pub judged : Judged file l d
  pub grid : d.grid ≡ g
  pub below : n < points_of g

-- What a call of skeptolyr_place has answered, and the run that it has left, in the same way.
pub record PlaceKeeps (file : List ℕ) (k n : ℕ) (before : List ℤ) (code : ℕ) (left : List ℤ) : Type 0 where
  pub refused : 2 ^ 63 ≤ code → Refuses file (place_into k n (length before)) code × (left ≡ before)
  pub answered : code < 2 ^ 63 → (number place : ℕ) → Applies file (place_into k n (length before)) number place → ⊥
  -- Demand 2: field k is on a grid in degrees and has the point, and these are its latitude and its longitude.
  pub placed : code < 2 ^ 63 → (g : DegreeGrid) × (p : Position) × OnGrid file k n (Grid.Degrees g) × LiesAt g n p × Puts before 0 (position_numbers p) left code

-- What a call of skeptolyr_sheet has answered, and the run that it has left, in the same way.
pub record SheetKeeps (file : List ℕ) (k n : ℕ) (before : List ℤ) (code : ℕ) (left : List ℤ) : Type 0 where
  pub refused : 2 ^ 63 ≤ code → Refuses file (sheet_into k n (length before)) code × (left ≡ before)
  pub answered : code < 2 ^ 63 → (number place : ℕ) → Applies file (sheet_into k n (length before)) number place → ⊥
  -- Demand 2: field k is on a Lambert grid and has the point, and so far to the right and down it lies.
  pub placed : code < 2 ^ 63 → (g : LambertGrid) × OnGrid file k n (Grid.Lambert g) × Puts before 0 (sheet_numbers (sheet_of g n)) left code

-- What a call of skeptolyr_point has answered, and the run that it has left.
pub record PointKeeps (file : List ℕ) (k n : ℕ) (before : List Float) (code : ℕ) (left : List Float) : Type 0 where
  pub refused : 2 ^ 63 ≤ code → Refuses file (point_into k n (length before)) code × (left ≡ before)
  pub answered : code < 2 ^ 63 → (number place : ℕ) → Applies file (point_into k n (length before)) number place → ⊥
  -- Demand 2: field k has the point, the answer is its mark, and the first element is its double; all else is as it was.
  pub told : code < 2 ^ 63 → (g : Grid) × (at : OnGrid file k n g) × Point file at.d n (get_or left 0 nan) code × (left ≡ laid before 0 (get_or left 0 nan ∷ []))
  -- Demand 3: how near the double is.
  pub near : code ≡ 1 → (g : Grid) (at : OnGrid file k n g) (x : ℕ) → integer_of file at.d (rank_of file at.d n) ≡ pos x → RebuiltNear at.d x (get_or left 0 nan)
  -- Where decode answers, these are the two elements that it writes for the point.
  pub alike :
      code < 2 ^ 63 → (c : Call) (points : ℕ) → c.k ≡ k → answer_to file c ≡ Ok points →
      (value_in (left_behind file c) (c.start + n) ≡ get_or left 0 nan) × (mark_in (left_behind file c) (c.start + n) ≡ code)

-- What a call of skeptolyr_picture has answered, and the run of octets that it has left.
pub record PictureKeeps (file : List ℕ) (k : ℕ) (before : List ℕ) (code : ℕ) (left : List ℕ) : Type 0 where
  pub refused : 2 ^ 63 ≤ code → Refuses file (picture k (length before)) code × (left ≡ before)
  pub answered : code < 2 ^ 63 → (number place : ℕ) → Applies file (picture k (length before)) number place → ⊥
  -- Demand 2: the run begins with the picture of field k, which is so long, all else is as it was, and what is seen in the picture is as a reader expects.
  pub drawn : code < 2 ^ 63 → (d : Description) × Draws file k before left d × AsSeen file d (octet_in d left) × (picture_length (frame_of d.grid) ≡ code)

-- RULES, "Listing": how a refusal is told, and the line of field k.
abbrev pub told_as : ℕ → ℕ → List ℕ
told_as number place = ascii "refused " ++ decimal number ++ ascii " at " ++ decimal place

pub data Line (input : List ℕ) (k : ℕ) : List ℕ → Type 0 where
  described : {l : Located} {d : Description} → FieldAt input k l → Judged input l d → Line input k (decimal k ++ ascii " " ++ field_text d ++ ascii "\n")
  refused : {number place : ℕ} → First input (describe k) number place → Line input k (decimal k ++ ascii " " ++ told_as number place ++ ascii "\n")

pub data Lines (input : List ℕ) : ℕ → List ℕ → Type 0 where
  none : Lines input 0 []
  next : {k : ℕ} {text line : List ℕ} → Lines input k text → Line input k line → Lines input (suc k) (text ++ line)

-- The listing of an input: 18 before all else, the refusal of the file, or the count of its fields and a line for each.
pub data Listed (input : List ℕ) : List ℕ → Type 0 where
  too_long : 65536 < length input → Listed input (told_as 18 65536 ++ ascii "\n")
  refused : {number place : ℕ} → length input ≤ 65536 → First input check number place → Listed input (told_as number place ++ ascii "\n")
  accepted : {m : ℕ} {fs : List Located} {text : List ℕ} → length input ≤ 65536 → Accepted input m fs → Lines input (length fs) text → Listed input (decimal (length fs) ++ ascii " fields\n" ++ text)

-- What a call of listing_file::list has put into a run, and how long it is.
pub record Lists (input before after : List ℕ) (behind : ℕ) : Type 0 where
  pub text : List ℕ
  pub listed : Listed input text
  pub put : Puts before 0 text after behind

-- What a call of listing_file::print has put: the program `listing` hands it what it has read of its input, and what reading answered when it was tried once
-- more. The listing of the whole input is for standard output. Where the input cannot be read, a line for standard error says so.
pub record ListingPrints (run : List ℕ) (got : ℕ) (again : Option ℕ) (before after : List ℕ) (p : Printout) : Type 0 where
  pub listed : (n : ℕ) → again ≡ Some n → (whole : List ℕ) → ReadFrom whole run got → Lists whole before after p.length × (descriptor_of p.stream ≡ 1)
  pub unreadable : again ≡ None → (whole : List ℕ) → ReadFrom whole run got → Puts before 0 unreadable_text after p.length × (descriptor_of p.stream ≡ 2)

-- A call of decode by its parameters: k, start, and the two runs.
abbrev pub runs_of : List Float → List ℕ → BothRuns
runs_of values presence = record { values = values; presence = presence }

abbrev pub call_of : ℕ → ℕ → BothRuns → Call
call_of k start before = record { k = k; start = start; before = before }

-- The promises, of the contracts that the checker proves of the functions. What is given are their parameters in order: of describe and picture file, k and the
-- run; of place, sheet and point file, k, n and the run; of decode file, k, start, values and presence; of list the text and the input; of print the text, the run that was read
-- into, and the two answers of reading.
pub record Calls : Type 2 where
  pub check : Promises skeptolyr.skeptolyr_check.ended (λ _ _. skeptolyr.skeptolyr_check.clauses) (λ _ given answer _. Checks given.0.now answer)
  pub describe :
      Promises skeptolyr.skeptolyr_describe.ended (λ _ _. skeptolyr.skeptolyr_describe.clauses)
      (λ _ given answer lasts. DescribeKeeps given.0.now given.1.0 given.1.1.0.now answer lasts.1.1.0)
  pub place :
      Promises skeptolyr.skeptolyr_place.ended (λ _ _. skeptolyr.skeptolyr_place.clauses)
      (λ _ given answer lasts. PlaceKeeps given.0.now given.1.0 given.1.1.0 given.1.1.1.0.now answer lasts.1.1.1.0)
  pub sheet :
      Promises skeptolyr.skeptolyr_sheet.ended (λ _ _. skeptolyr.skeptolyr_sheet.clauses)
      (λ _ given answer lasts. SheetKeeps given.0.now given.1.0 given.1.1.0 given.1.1.1.0.now answer lasts.1.1.1.0)
  pub point :
      Promises skeptolyr.skeptolyr_point.ended (λ _ _. skeptolyr.skeptolyr_point.clauses)
      (λ _ given answer lasts. PointKeeps given.0.now given.1.0 given.1.1.0 given.1.1.1.0.now answer lasts.1.1.1.0)
  pub picture :
      Promises skeptolyr.skeptolyr_picture.ended (λ _ _. skeptolyr.skeptolyr_picture.clauses)
      (λ _ given answer lasts. PictureKeeps given.0.now given.1.0 given.1.1.0.now answer lasts.1.1.0)
  pub decode :
      Promises skeptolyr.skeptolyr_decode.ended (λ _ _. skeptolyr.skeptolyr_decode.clauses)
      (λ _ given answer lasts.
      DecodeKeeps given.0.now
      (call_of given.1.0 given.1.1.0 (runs_of given.1.1.1.0.now given.1.1.1.1.0.now))
      answer
      (runs_of lasts.1.1.1.0 lasts.1.1.1.1.0))
  pub list : Promises listing.list.ended (λ _ _. listing.list.clauses) (λ _ given answer lasts. Lists given.1.0.now given.0.now lasts.0 answer)
  pub print :
      Promises listing.print.ended (λ _ _. listing.print.clauses)
      (λ _ given answer lasts. ListingPrints given.1.0.now given.1.1.0 given.1.1.1.0 given.0.now lasts.0 answer)

-- The questions in Rattle: each answers what the demands speak of, and decode and picture leave the runs that they speak of.
pub record RattleCalls : Type 2 where
  pub check : Promises tiling.check.ended (λ _ _. tiling.check.clauses) (λ _ given answer _. answer ≡ Tiling.check given.0.now)
  pub describe : Promises question.describe.ended (λ _ _. question.describe.clauses) (λ _ given answer _. answer ≡ Describe.describe given.0.now given.1.0)
  pub place : Promises question_place.place.ended (λ _ _. question_place.place.clauses) (λ _ given answer _. answer ≡ Place.place given.0.now given.1.0 given.1.1.0)
  pub sheet : Promises question_place.sheet.ended (λ _ _. question_place.sheet.clauses) (λ _ given answer _. answer ≡ Place.sheet given.0.now given.1.0 given.1.1.0)
  pub point : Promises question_point.point.ended (λ _ _. question_point.point.clauses) (λ _ given answer _. answer ≡ Single.point given.0.now given.1.0 given.1.1.0)
  pub picture :
      Promises question_picture.picture.ended (λ _ _. question_picture.picture.clauses)
      (λ _ given answer lasts.
      (answer ≡ Picture.pictured given.0.now given.1.0 (length given.1.1.0.now)) × (lasts.1.1.0 ≡ Picture.run_left given.0.now given.1.0 given.1.1.0.now))
  pub decode :
      Promises question_decode.decode.ended (λ _ _. question_decode.decode.clauses)
      (λ _ given answer lasts.
      let call = call_of given.1.0 given.1.1.0 (runs_of given.1.1.1.0.now given.1.1.1.1.0.now) in
      (answer ≡ answer_to given.0.now call) × (runs_of lasts.1.1.1.0 lasts.1.1.1.1.0 ≡ left_behind given.0.now call))
  pub rebuild : Promises doubles.rebuild_one.ended (λ _ _. doubles.rebuild_one.clauses) (λ _ given answer _. answer ≡ rebuild_one given.0 given.1.0 given.1.1.0 given.1.1.1.0)
