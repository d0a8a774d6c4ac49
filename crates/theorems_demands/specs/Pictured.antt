-- RULES, "The picture": what the octets of a picture say of a field, over its integers X and its points that are present.
use Rattle.std.specs.Prelude.{ℕ, ◌+◌, ◌≤◌, ◌<◌, ◌≡◌, List, ◌↔◌, pos, length, get_or}
use Rattle.tiling_sections.specs.declared.Located.{Located}
use Rattle.greys.specs.Greys.{grey_of}
use Rattle.section_3_geometry.specs.Geometry.{frame_of, points_of}
use Rattle.question.specs.declared.Description.{Description}
use Rattle.question.specs.Judge.{integer_of}
use Rattle.question.specs.Judged.{Judged}
use Rattle.question_decode.specs.Decoding.{present_of, rank_of}
use Rattle.question_picture.specs.Picture.{header, picture_length}
use Rattle.theorems_demands.specs.Demand1.{FieldAt}

module _ (file : List ℕ) (d : Description) where
  -- Point i is present, and x is its integer: that of the standard.
  pub record HasX (i x : ℕ) : Type 0 where
    pub among : i < points_of d.grid
    pub present : present_of file d i ≡ 1
    pub standard : integer_of file d (rank_of file d i) ≡ pos x

  -- m is the largest X of the points that are present: none of them has a larger one, and one has it, unless it is 0.
  pub record IsLargest (m : ℕ) : Type 0 where
    pub bounds : (i x : ℕ) → HasX i x → x ≤ m
    pub reached : 1 ≤ m → (i : ℕ) × HasX i m

  -- The octet of point i: 0 where the point is missing, and else the grey of its X.
  pub record Grey (m i octet : ℕ) : Type 0 where
    pub missing : present_of file d i ≡ 0 → octet ≡ 0
    pub present : present_of file d i ≡ 1 → (x : ℕ) × HasX i x × (x ≤ 2147483647) × (octet ≡ grey_of m x)

-- The octet of point i in a run that begins with a picture of the field.
abbrev pub octet_in : Description → List ℕ → ℕ → ℕ
octet_in d run i = get_or run (length (header (frame_of d.grid)) + i) 0

-- A call has drawn the field that d describes: the run that it leaves begins with the lines and the greys of all points, and all behind them is as it was.
pub record Draws (file : List ℕ) (k : ℕ) (before left : List ℕ) (d : Description) : Type 0 where
  pub describes : (l : Located) × FieldAt file k l × Judged file l d
  pub fits : picture_length (frame_of d.grid) ≤ length before
  pub lines : (i : ℕ) → i < length (header (frame_of d.grid)) → get_or left i 0 ≡ get_or (header (frame_of d.grid)) i 0
  pub largest : ℕ
  pub is_largest : IsLargest file d largest
  pub points : (i : ℕ) → i < points_of d.grid → Grey file d largest i (octet_in d left i)
  pub behind : (i : ℕ) → picture_length (frame_of d.grid) ≤ i → get_or left i 0 ≡ get_or before i 0

-- What is seen in it: a larger X is never darker, the largest X is white, unless it is 0, and black is missing.
pub record AsSeen (file : List ℕ) (d : Description) (octet : ℕ → ℕ) : Type 0 where
  pub never_falls : (i j x y : ℕ) → HasX file d i x → HasX file d j y → x ≤ y → octet i ≤ octet j
  pub white : (i m : ℕ) → IsLargest file d m → 1 ≤ m → HasX file d i m → octet i ≡ 255
  pub black : (i : ℕ) → i < points_of d.grid → (octet i ≡ 0) ↔ (present_of file d i ≡ 0)
