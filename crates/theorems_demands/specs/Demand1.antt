-- Demand 1: a question is answered in full, or refused with one number and place: the first in the rules' order whose condition holds. A refused
-- call alters nothing that was lent. (That every call ends, and stays inside what it was lent, is proved of each function by the checker itself.)
use Rattle.std.specs.Prelude.{ℕ, ◌+◌, ◌≤◌, ◌<◌, ◌≡◌, false, List, ◌↔◌, length, get_or, Float, Some, None}
use Rattle.refusals.specs.declared.Why as declaredWhy
use Rattle.refusals.specs.declared.Why.TheVariants as Why
use Rattle.refusals.specs.Refusals.{refusal, rank}
use Rattle.tiling_sections.specs.declared.Located.{Located}
use Rattle.tiling_sections.specs.Walk.{nowhere}
use Rattle.tiling.specs.Tiling.{largest}
use Rattle.theorems_grammar.specs.Grammar.{Accepted}
use Rattle.theorems_grammar.specs.Refusals.{Before, Faulty}
use Rattle.section_1.specs.declared.Identification.{Identification}
use Rattle.section_3_geometry.specs.declared.DegreeGrid.{DegreeGrid}
use Rattle.section_3_geometry.specs.declared.LambertGrid.{LambertGrid}
use Rattle.section_3_geometry.specs.declared.Grid.{Grid}
use Rattle.section_3_geometry.specs.Geometry.{frame_of, points_of, template_of}
use Rattle.section_5.specs.declared.Representation.{Representation}
use Rattle.section_6.specs.declared.Presence.{Presence}
use Rattle.section_6.specs.Presence.{present_at, present_before}
use Rattle.doubles.specs.Doubles as Doubles
use Rattle.values_integers.specs.Integers.{integer_at}
use Rattle.question.specs.Judged.{identification_of, grid_of, product_of, representation_of, presence_of, data_of}
use Rattle.question_decode.specs.Decoding.{values_left, presence_left}
use Rattle.question_picture.specs.Picture.{header, run_left}
use Rattle.theorems_demands.specs.Questions.{Question, verdict, describe, place, sheet, decode, point, picture, describe_into, place_into, sheet_into, point_into, answered, refused}

-- Field k of the file lies at l: the grammar accepts the file, and l is the place of its field k, counted from 0 over all messages.
pub record FieldAt (file : List ℕ) (k : ℕ) (l : Located) : Type 0 where
  pub messages : ℕ
  pub fields : List Located
  pub accepted : Accepted file messages fields
  pub below : k < length fields
  pub lies : get_or fields k nowhere ≡ l

-- The field number that a question names. Check names none.
pub data Names : Question → ℕ → Type 0 where
  describes : {k : ℕ} → Names (describe k) k
  places : {k n : ℕ} → Names (place k n) k
  decodes : {k start values presence : ℕ} → Names (decode k start values presence) k
  describes_into : {k room : ℕ} → Names (describe_into k room) k
  places_into : {k n room : ℕ} → Names (place_into k n room) k
  sheets : {k n : ℕ} → Names (sheet k n) k
  sheets_into : {k n room : ℕ} → Names (sheet_into k n room) k
  tells : {k n : ℕ} → Names (point k n) k
  tells_into : {k n room : ℕ} → Names (point_into k n room) k
  draws : {k room : ℕ} → Names (picture k room) k

-- It is about the field of that number, which lies at l.
pub record About (file : List ℕ) (q : Question) (l : Located) : Type 0 where
  pub k : ℕ
  pub names : Names q k
  pub lies : FieldAt file k l

-- What else a question asks. Of a point: the point, how many numbers tell of it, and for how many there is room; an answer that is handed back has room for its own.
-- A place is two numbers, and is asked of grids of one template; a value is one, and is asked of any grid. Of all values: the start index and the lengths of the
-- runs. Of a picture: how many octets there is room for. Of a description: how many numbers it needs, which is 53 on a grid in degrees and 60 on a Lambert grid, and
-- for how many there is room.
pub data AsksPoint : Question → (n needed room : ℕ) → Type 0 where
  in_degrees : {k n : ℕ} → AsksPoint (place k n) n 2 2
  in_degrees_into : {k n room : ℕ} → AsksPoint (place_into k n room) n 2 room
  on_sheet : {k n : ℕ} → AsksPoint (sheet k n) n 2 2
  on_sheet_into : {k n room : ℕ} → AsksPoint (sheet_into k n room) n 2 room
  its_value : {k n : ℕ} → AsksPoint (point k n) n 1 1
  its_value_into : {k n room : ℕ} → AsksPoint (point_into k n room) n 1 room

pub data AsksOf : Question → (template : ℕ) → Type 0 where
  for_place : {k n : ℕ} → AsksOf (place k n) 0
  for_place_into : {k n room : ℕ} → AsksOf (place_into k n room) 0
  for_sheet : {k n : ℕ} → AsksOf (sheet k n) 30
  for_sheet_into : {k n room : ℕ} → AsksOf (sheet_into k n room) 30

pub data AsksValue : Question → (n : ℕ) → Type 0 where
  a_value : {k n : ℕ} → AsksValue (point k n) n
  a_value_into : {k n room : ℕ} → AsksValue (point_into k n room) n

pub data Lends : Question → ℕ → ℕ → ℕ → Type 0 where
  lends : {k start values presence : ℕ} → Lends (decode k start values presence) start values presence

pub data LendsOctets : Question → (room : ℕ) → Type 0 where
  lends_octets : {k room : ℕ} → LendsOctets (picture k room) room

pub data LendsNumbers : Question → Grid → (needed room : ℕ) → Type 0 where
  for_degrees : {k room : ℕ} {g : DegreeGrid} → LendsNumbers (describe_into k room) (Grid.Degrees g) 53 room
  for_lambert : {k room : ℕ} {g : LambertGrid} → LendsNumbers (describe_into k room) (Grid.Lambert g) 60 room

-- The first fault in the order of the file: messages tile it up to p, and what stands there is none.
pub record Fault (file : List ℕ) (why : declaredWhy.Why) (place : ℕ) : Type 0 where
  pub p : ℕ
  pub before : Before file p
  pub inside : p < length file
  pub faulty : Faulty file p (refusal why place)

-- RULES, "Refusals by number": the condition under which the refusal of a number applies to a question, and its place. Each is stated for itself,
-- whatever else is wrong: where a section cannot be judged without what another says, that one is taken.
pub data Applies (file : List ℕ) (q : Question) : (number place : ℕ) → Type 0 where
  -- The length of the file.
  too_long : largest < length file → Applies file q 1 0
  empty : length file ≡ 0 → Applies file q 2 0
  -- The tiling: the place is that of the message, of the section, or of "7777" where a field is not finished.
  cut : {p : ℕ} → Fault file Why.Cut p → Applies file q 3 p
  not_grib_2 : {p : ℕ} → Fault file Why.NotGrib2 p → Applies file q 4 p
  bad_length : {p : ℕ} → Fault file Why.BadLength p → Applies file q 5 p
  out_of_place : {p : ℕ} → Fault file Why.OutOfPlace p → Applies file q 6 p
  no_end : {p : ℕ} → Fault file Why.NoEnd p → Applies file q 7 p
  -- The file is accepted, and has no field k.
  no_such_field : {k m : ℕ} {fs : List Located} → Names q k → Accepted file m fs → length fs ≤ k → Applies file q 8 0
  -- Section 1 or 3 in force for the field is not taken.
  section_1 : {l : Located} → About file q l → identification_of file l ≡ None → Applies file q 9 l.starts.one.0
  section_3 : {l : Located} → About file q l → grid_of file l ≡ None → Applies file q 10 l.starts.three.0
  -- Section 4 is not taken, with the reference time of section 1.
  section_4 :
      {l : Located} {i : Identification} →
      About file q l →
      identification_of file l ≡ Some i →
      product_of file l i.reference ≡ None →
      Applies file q 11 l.starts.four.0
  -- Section 5 is not taken.
  section_5 : {l : Located} → About file q l → representation_of file l ≡ None → Applies file q 12 l.starts.five.0
  -- Section 6 is not taken, with the points of section 3 and the N of section 5.
  section_6 :
      {l : Located} {g : Grid} {r : Representation} →
      About file q l →
      grid_of file l ≡ Some g →
      representation_of file l ≡ Some r →
      presence_of file l (points_of g) r.n ≡ None →
      Applies file q 13 l.starts.six.0
  -- The group plan or the length of section 7 is not as section 5 says.
  section_7 :
      {l : Located} {r : Representation} →
      About file q l →
      representation_of file l ≡ Some r →
      data_of file l r ≡ None →
      Applies file q 14 l.starts.seven.0
  -- The points do not fit into both runs from the start index on.
  no_room :
      {l : Located} {g : Grid} {start values presence : ℕ} →
      About file q l →
      Lends q start values presence →
      grid_of file l ≡ Some g →
      ((start + points_of g ≤ values) × (start + points_of g ≤ presence) → ⊥) →
      Applies file q 15 0
  -- The run is too short for the picture: its lines, and a grey for each point.
  no_room_for_picture :
      {l : Located} {g : Grid} {room : ℕ} →
      About file q l →
      LendsOctets q room →
      grid_of file l ≡ Some g →
      room < length (header (frame_of g)) + points_of g →
      Applies file q 15 0
  -- The run is too short for the numbers of a description, or for those that tell of a point.
  no_room_for_numbers :
      {l : Located} {g : Grid} {needed room : ℕ} →
      About file q l →
      grid_of file l ≡ Some g →
      LendsNumbers q g needed room →
      room < needed →
      Applies file q 15 0
  no_room_for_point : {l : Located} {n needed room : ℕ} → About file q l → AsksPoint q n needed room → room < needed → Applies file q 15 0
  -- One of the N integers X that decode rebuilds is below 0 or above 2,147,483,647.
  out_of_range :
      {l : Located} {r : Representation} {start values presence m : ℕ} →
      About file q l →
      Lends q start values presence →
      representation_of file l ≡ Some r →
      m < r.n →
      Doubles.is_in_range (integer_at file l.starts.seven.0 r m) ≡ false →
      Applies file q 16 l.starts.seven.0
  -- One of the N integers X that a picture shows is so.
  out_of_range_for_picture :
      {l : Located} {r : Representation} {room m : ℕ} →
      About file q l →
      LendsOctets q room →
      representation_of file l ≡ Some r →
      m < r.n →
      Doubles.is_in_range (integer_at file l.starts.seven.0 r m) ≡ false →
      Applies file q 16 l.starts.seven.0
  -- Point n is present, and one of the integers X(1) to X(m) is so, where X(m) is the point's own: as many points are present before it as integers come before X(m).
  out_of_range_up_to :
      {l : Located} {g : Grid} {r : Representation} {p : Presence} {n j : ℕ} →
      About file q l →
      AsksValue q n →
      grid_of file l ≡ Some g →
      representation_of file l ≡ Some r →
      presence_of file l (points_of g) r.n ≡ Some p →
      present_at file p (points_of g) n ≡ 1 →
      j ≤ present_before file p (points_of g) n →
      Doubles.is_in_range (integer_at file l.starts.seven.0 r j) ≡ false →
      Applies file q 16 l.starts.seven.0
  -- The field has no point n.
  no_such_point :
      {l : Located} {g : Grid} {n needed room : ℕ} →
      About file q l →
      AsksPoint q n needed room →
      grid_of file l ≡ Some g →
      points_of g ≤ n →
      Applies file q 17 0
  -- The grid is of the other kind: the question is about grids of another template.
  other_grid :
      {l : Located} {g : Grid} {template : ℕ} →
      About file q l →
      AsksOf q template →
      grid_of file l ≡ Some g →
      (template_of g ≡ template → ⊥) →
      Applies file q 20 0

-- The refusal that is given: it applies, and none of those that apply comes before it in the order of refusals.
pub record First (file : List ℕ) (q : Question) (number place : ℕ) : Type 0 where
  pub applies : Applies file q number place
  pub foremost : (other elsewhere : ℕ) → Applies file q other elsewhere → rank number ≤ rank other

-- Decode leaves both runs as they were.
abbrev pub Untouched : List ℕ → ℕ → ℕ → List Float → List ℕ → Type 0
Untouched file k start values presence = (values_left file k start values presence ≡ values) × (presence_left file k start values presence ≡ presence)

-- The demand, of every file and every question.
pub record Demand1 (file : List ℕ) : Type 0 where
  -- A question is refused exactly by the first refusal that applies.
  pub refuses : (q : Question) (number place : ℕ) → (verdict file q ≡ refused number place) ↔ First file q number place
  -- It is answered exactly where none applies.
  pub answers : (q : Question) → (verdict file q ≡ answered) ↔ ((number place : ℕ) → Applies file q number place → ⊥)
  -- There is one first refusal at most.
  pub one : (q : Question) (number place other elsewhere : ℕ) → First file q number place → First file q other elsewhere → (number ≡ other) × (place ≡ elsewhere)
  -- A refused call alters no number in the runs, whatever they hold.
  pub untouched :
      (k start : ℕ) (values : List Float) (presence : List ℕ) (number place : ℕ) →
      verdict file (decode k start (length values) (length presence)) ≡ refused number place →
      Untouched file k start values presence
  pub undrawn : (k : ℕ) (run : List ℕ) (number place : ℕ) → verdict file (picture k (length run)) ≡ refused number place → run_left file k run ≡ run
