-- Demand 2: a file is accepted exactly when the grammar tiles it. Its field count, each description, each missing point and each packed integer X are those
-- that the standard defines.
use Rattle.std.specs.Prelude.{ℕ, ◌+◌, ◌≤◌, ◌<◌, ◌≡◌, false, List, ◌↔◌, pos, length, get_or, Float, Result, Ok, Err}
use Rattle.std.specs.Float.{nan, fin}
use Rattle.refusals.specs.declared.Why.TheVariants as Why
use Rattle.refusals.specs.Refusals.{refusal}
use Rattle.tiling_sections.specs.declared.Located.{Located}
use Rattle.tiling.specs.Tiling.{check, both_counts}
use Rattle.theorems_grammar.specs.Grammar.{Accepted}
use Rattle.section_3_geometry.specs.declared.Position.{Position}
use Rattle.section_3_geometry.specs.declared.DegreeGrid.{DegreeGrid}
use Rattle.section_3_geometry.specs.declared.LambertGrid.{LambertGrid}
use Rattle.section_3_geometry.specs.declared.Grid.{Grid}
use Rattle.section_3_geometry.specs.Geometry.{frame_of, points_of}
use Rattle.section_3_positions.specs.Positions.{LiesAt}
use Rattle.section_3_positions.specs.Expected.{AsExpected}
use Rattle.section_3_lambert.specs.declared.SheetPlace.{SheetPlace}
use Rattle.section_3_lambert.specs.Sheet.{sheet_of}
use Rattle.question.specs.declared.Description.{Description}
use Rattle.question.specs.Describe.{describe}
use Rattle.question.specs.Judged.{Judged}
use Rattle.question_place.specs.Place.{place, sheet}
use Rattle.question_decode.specs.Decoding.{present_of, answer, values_left, presence_left}
use Rattle.question_point.specs.Point.{point}
use Rattle.question_picture.specs.Picture as Picture
use Rattle.theorems_demands.specs.Demand1.{FieldAt}
use Rattle.theorems_demands.specs.Alone.{Present, Alone, Agrees}
use Rattle.theorems_demands.specs.Numbers.{InNumbers}
use Rattle.theorems_demands.specs.Pictured.{octet_in, Draws, AsSeen}
use Rattle.refusals.specs.declared.Refusal.{Refusal}

-- Point i, by the two elements that are written for it. Its mark is the bitmap's bit, or 1 where all are present; a missing point has +0.
pub record Point (file : List ℕ) (d : Description) (i : ℕ) (written : Float) (mark : ℕ) : Type 0 where
  pub marked : mark ≡ present_of file d i
  pub one_or_zero : mark < 2
  pub missing : mark ≡ 0 → written ≡ fin false 0 (pos 0)
  pub present : mark ≡ 1 → Present file d i written

-- The two runs of decode, as they are at one time, and what stands at a place of each.
pub record BothRuns : Type 0 where
  pub values : List Float
  pub presence : List ℕ

abbrev pub value_in : BothRuns → ℕ → Float
value_in runs i = get_or runs.values i nan

abbrev pub mark_in : BothRuns → ℕ → ℕ
mark_in runs i = get_or runs.presence i 0

-- A call of decode, with what both runs hold before it.
pub record Call : Type 0 where
  pub k : ℕ
  pub start : ℕ
  pub before : BothRuns

-- It has decoded the field that d describes: the runs that it leaves hold the field's points from the start index on, and all else is as it was.
module _ (file : List ℕ) (c : Call) (left : BothRuns) where
  abbrev pub KeptAt : ℕ → Type 0
  KeptAt i = (value_in left i ≡ value_in c.before i) × (mark_in left i ≡ mark_in c.before i)

  pub record Decodes (d : Description) : Type 0 where
    pub describes : (l : Located) × FieldAt file c.k l × Judged file l d
    pub fits : (c.start + points_of d.grid ≤ length c.before.values) × (c.start + points_of d.grid ≤ length c.before.presence)
    pub points : (i : ℕ) → i < points_of d.grid → Point file d i (value_in left (c.start + i)) (mark_in left (c.start + i))
    pub before : (i : ℕ) → i < c.start → KeptAt i
    pub behind : (i : ℕ) → c.start + points_of d.grid ≤ i → KeptAt i

-- Field k is described, this is its grid, and it has point n.
pub record HasPoint (file : List ℕ) (k n : ℕ) (g : Grid) : Type 0 where
  pub d : Description
  pub describes : describe file k ≡ Ok d
  pub grid : d.grid ≡ g
  pub below : n < points_of g

-- The answer of a call, and the runs that it leaves, by the contract of decode.
abbrev pub answer_to : List ℕ → Call → Result ℕ Refusal
answer_to file c = answer file c.k c.start (length c.before.values) (length c.before.presence)

abbrev pub left_behind : List ℕ → Call → BothRuns
left_behind file c =
    record {
      values = values_left file c.k c.start c.before.values c.before.presence;
      presence = presence_left file c.k c.start c.before.values c.before.presence;
    }

-- The demand, of every file.
pub record Demand2 (file : List ℕ) : Type 0 where
  -- The counts of messages and fields are those of a tiling, and are given exactly where there is one.
  pub accepts : (m n : ℕ) → (check file ≡ Ok (both_counts m n)) ↔ ((fs : List Located) × Accepted file m fs × (length fs ≡ n))
  -- There is one tiling at most.
  pub one : {m m' : ℕ} {fs fs' : List Located} → Accepted file m fs → Accepted file m' fs' → (m ≡ m') × (fs ≡ fs')
  -- Field k is described as its sections in force say, exactly where each of them is taken.
  pub describes : (k : ℕ) (d : Description) → (describe file k ≡ Ok d) ↔ ((l : Located) × FieldAt file k l × Judged file l d)
  -- The cases of that description have the numbers that the sections' octets hold.
  pub numbers : (l : Located) (d : Description) → Judged file l d → InNumbers file l d
  -- Point n of a grid in degrees lies where its row and its column put it, evenly between the first point and the last; and so the points lie as a reader expects.
  pub places : (k n : ℕ) (p : Position) → (place file k n ≡ Ok p) ↔ ((g : DegreeGrid) × HasPoint file k n (Grid.Degrees g) × LiesAt g n p)
  pub expected : (k : ℕ) (d : Description) (g : DegreeGrid) → describe file k ≡ Ok d → d.grid ≡ Grid.Degrees g → AsExpected g
  -- Point n of a Lambert grid lies on the sheet its column times Dx to the right of the first point, and its row times Dy below it.
  pub sheets : (k n : ℕ) (p : SheetPlace) → (sheet file k n ≡ Ok p) ↔ ((g : LambertGrid) × HasPoint file k n (Grid.Lambert g) × (p ≡ sheet_of g n))
  -- A call of decode that answers with a count has decoded field k, whose points they are.
  pub decodes : (c : Call) (n : ℕ) → answer_to file c ≡ Ok n → (d : Description) × Decodes file c (left_behind file c) d × (points_of d.grid ≡ n)
  -- Point n of field k, asked alone, is told by its own integer and by those before it.
  pub alone : (k n : ℕ) (d : Description) → describe file k ≡ Ok d → n < points_of d.grid → Alone file d n (point file k n)
  -- Where decode answers, both agree for every n.
  pub agree : (c : Call) (n i : ℕ) → answer_to file c ≡ Ok n → i < n → Agrees (point file c.k i) (value_in (left_behind file c) (c.start + i)) (mark_in (left_behind file c) (c.start + i))
  -- Where decode refuses with 16, field k is described, and its points are told alone as above; a point that is refused is refused at the same place.
  pub besides :
      (c : Call) (place : ℕ) →
      answer_to file c ≡ Err (refusal Why.ValueOutOfRange place) →
      (d : Description) × (describe file c.k ≡ Ok d) × (place ≡ d.starts.seven.0) × ((n : ℕ) → n < points_of d.grid → Alone file d n (point file c.k n))
  -- A call of picture that answers with a length has drawn field k, whose picture is so long. What is seen in it is as a reader expects.
  pub draws :
      (k : ℕ) (run : List ℕ) (n : ℕ) →
      Picture.pictured file k (length run) ≡ Ok n →
      (d : Description) × Draws file k run (Picture.run_left file k run) d × (Picture.picture_length (frame_of d.grid) ≡ n)
  pub seen : (k : ℕ) (run left : List ℕ) (d : Description) → Draws file k run left d → AsSeen file d (octet_in d left)
