-- RULES, "The picture": a field as a raw PGM picture. Its integers X and which of its points are present are all that it is made of.
use Rattle.std.specs.Prelude.{ℕ, zero, suc, ◌+◌, ◌≡◌, max, cond, List, ◌++◌, ltb, nat_abs, length, Some, Result, Ok, Err}
use Rattle.laws_rows.specs.Rows.{row, laid}
use Rattle.refusals.specs.declared.Refusal.{Refusal}
use Rattle.refusals.specs.declared.Why.TheVariants as Why
use Rattle.refusals.specs.Refusals.{refusal}
use Rattle.text.specs.Text.{ascii, decimal}
use Rattle.greys.specs.Greys.{point_grey}
use Rattle.section_3_geometry.specs.declared.Frame.{Frame}
use Rattle.section_3_geometry.specs.Geometry.{points_in, frame_of}
use Rattle.values_largest.specs.Largest.{largest_in}
use Rattle.question.specs.declared.Description.{Description}
use Rattle.question.specs.Describe.{describe}
use Rattle.question.specs.Judge.{integer_of, is_decodable}
use Rattle.question_decode.specs.Decoding.{present_of, rank_of}

-- Of two points that are present the larger X counts; one that is missing counts for nothing.
abbrev pub counting : (largest mark x : ℕ) → ℕ
counting largest zero x = largest
counting largest (suc mark) x = max largest x

-- Where it is known of each point whether it is present (1) or missing (0), and which X it has if it is present:
module _ (mark x : ℕ → ℕ) where
  -- The largest X of those of the first n points that are present, or 0 where none is.
  unfoldable pub largest_present : ℕ → ℕ
  largest_present zero = 0
  largest_present (suc n) = counting (largest_present n) (mark n) (x n)

  -- The greys of n points, one an octet, in their order, which is row by row.
  abbrev pub greys_of : ℕ → List ℕ
  greys_of n = row (λ i. point_grey (largest_present n) (mark i) (x i)) n

-- The lines before the greys: what kind of file it is, Ni and Nj, and the whitest grey. Each ends in a newline.
abbrev pub header : Frame → List ℕ
header f = ascii "P5\n" ++ decimal f.ni ++ ascii " " ++ decimal f.nj ++ ascii "\n255\n"

-- The picture of a grid's points.
abbrev pub picture : Frame → (mark x : ℕ → ℕ) → List ℕ
picture f mark x = header f ++ greys_of mark x (points_in f)

-- How long it is.
abbrev pub picture_length : Frame → ℕ
picture_length f = length (header f) + points_in f

module _ (file : List ℕ) (d : Description) where
  -- The integer X of point i, where it is present. An integer that is in its range is its own size.
  abbrev pub point_integer : ℕ → ℕ
  point_integer i = nat_abs (integer_of file d (rank_of file d i))

  -- The picture of a field, of either kind of grid.
  abbrev pub picture_of : List ℕ
  picture_of = picture (frame_of d.grid) (present_of file d) point_integer

-- What comes of the question: a picture, or a refusal.
pub data Drawing : Type 0 where
  gives : ℕ → List ℕ → Drawing
  refuses : Refusal → Drawing

-- A picture is asked of a field that is described, for a run of this length: 15, and 16 behind it.
abbrev pub picture_asked : List ℕ → ℕ → Description → Drawing
picture_asked file room d =
    cond (ltb room (picture_length (frame_of d.grid)))
    (refuses (refusal Why.NoRoom 0))
    (cond (is_decodable file d) (gives (picture_length (frame_of d.grid)) (picture_of file d)) (refuses (refusal Why.ValueOutOfRange d.starts.seven.0)))

-- The refusals of describe come first.
abbrev pub drawing_by : List ℕ → ℕ → Result Description Refusal → Drawing
drawing_by file room (Ok d) = picture_asked file room d
drawing_by file room (Err r) = refuses r

abbrev pub drawing : List ℕ → ℕ → ℕ → Drawing
drawing file k room = drawing_by file room (describe file k)

-- The answer is the picture's length.
abbrev pub pictured_by : Drawing → Result ℕ Refusal
pictured_by (gives n octets) = Ok n
pictured_by (refuses r) = Err r

abbrev pub pictured : List ℕ → ℕ → ℕ → Result ℕ Refusal
pictured file k room = pictured_by (drawing file k room)

-- What the whole run holds: the picture from its first octet on, and behind that all as it was. A refused call alters nothing.
abbrev pub run_after : List ℕ → Drawing → List ℕ
run_after run (gives n octets) = laid run 0 octets
run_after run (refuses r) = run

abbrev pub run_left : List ℕ → ℕ → List ℕ → List ℕ
run_left file k run = run_after run (drawing file k (length run))

-- All integers of a field are in their range, and this is the largest.
abbrev pub LargestOf : List ℕ → Description → ℕ → Type 0
LargestOf file d largest = largest_in (integer_of file d) d.representation.n ≡ Some largest
