-- RULES, "Tiling a file": FM 92 GRIB edition 2 as it is taken here. Messages tile a file, and sections tile each message. These relations say what a file
-- is; they compute nothing.
use Rattle.std.specs.Prelude.{ℕ, ◌+◌, ◌≤◌, ◌≡◌, List, [], ◌∷◌, ◌++◌, length, Option, None}
use Rattle.octets.specs.declared.FilePlace.{FilePlace}
use Rattle.octets.specs.Places.{at}
use Rattle.octets.specs.Numbers.{number_at}
use Rattle.section.specs.Sections.{length_at, kind_at}
use Rattle.tiling_sections.specs.declared.Located.{Located}
use Rattle.tiling_sections.specs.Walk.{bitmap_behind}
use Rattle.tiling.specs.Tiling.{largest, grib, sevens, opening_at, edition_at, stated_at}

-- A section numbered n, from place a up to b: its first four octets hold its length, and the fifth its number.
pub record Section (file : List ℕ) (n a b : ℕ) : Type 0 where
  pub least : 5 ≤ length_at file a
  pub ends : a + length_at file a ≡ b
  pub numbered : kind_at file a ≡ n

-- A field is 4, 5, 6, 7.
pub record Field (file : List ℕ) (a b : ℕ) : Type 0 where
  pub p5 : ℕ
  pub p6 : ℕ
  pub p7 : ℕ
  pub four : Section file 4 a p5
  pub five : Section file 5 p5 p6
  pub six : Section file 6 p6 p7
  pub seven : Section file 7 p7 b

module _ {file : List ℕ} {a b : ℕ} where
  -- The bitmap in force behind a field, where another was in force before it.
  abbrev pub bitmap_of : Option FilePlace → Field file a b → Option FilePlace
  bitmap_of bitmap f = bitmap_behind file bitmap f.p6 f.p7

  -- Where a field lies, under the sections 0, 1 and 3 and the bitmap in force.
  abbrev pub located_at : ℕ → ℕ → ℕ → Option FilePlace → Field file a b → Located
  located_at start one three bitmap f =
      record {
        starts = record { zero = at start; one = at one; three = at three; four = at a; five = at f.p5; six = at f.p6; seven = at f.p7 };
        bitmap = bitmap_of bitmap f;
      }

-- One or more fields, from a up to b, and where each lies.
pub data Fields (file : List ℕ) (start one three : ℕ) : Option FilePlace → ℕ → ℕ → List Located → Type 0 where
  last : {bitmap : Option FilePlace} {a b : ℕ} (f : Field file a b) → Fields file start one three bitmap a b (located_at start one three bitmap f ∷ [])
  more : {bitmap : Option FilePlace} {a b c : ℕ} {fs : List Located} (f : Field file a b) → Fields file start one three (bitmap_of bitmap f) b c fs → Fields file start one three bitmap a c (located_at start one three bitmap f ∷ fs)

-- A grid is section 3 followed by one or more fields. No bitmap is in force at its start.
pub record GridPart (file : List ℕ) (start one a b : ℕ) (fs : List Located) : Type 0 where
  pub p4 : ℕ
  pub three : Section file 3 a p4
  pub fields : Fields file start one a None p4 b fs

-- One or more grids.
pub data GridParts (file : List ℕ) (start one : ℕ) : ℕ → ℕ → List Located → Type 0 where
  last : {a b : ℕ} {fs : List Located} → GridPart file start one a b fs → GridParts file start one a b fs
  more : {a b c : ℕ} {fs gs : List Located} → GridPart file start one a b fs → GridParts file start one b c gs → GridParts file start one a c (fs ++ gs)

-- A message, from a up to b: section 0 with "GRIB", edition 2 and the message's length; section 1 once; one or more grids; "7777".
pub record Message (file : List ℕ) (a b : ℕ) (fs : List Located) : Type 0 where
  pub mark : opening_at file a ≡ grib
  pub edition : edition_at file a ≡ 2
  pub stated : a + stated_at file a ≡ b
  pub inside : b ≤ length file
  pub p3 : ℕ
  pub p7777 : ℕ
  pub one : Section file 1 (a + 16) p3
  pub grids : GridParts file a (a + 16) p3 p7777 fs
  pub closing : number_at file p7777 4 ≡ sevens
  pub closed : p7777 + 4 ≡ b

-- So many messages tile the file from a up to its end.
pub data Messages (file : List ℕ) : ℕ → ℕ → List Located → Type 0 where
  none : Messages file (length file) 0 []
  next : {a b m : ℕ} {fs gs : List Located} → Message file a b fs → Messages file b m gs → Messages file a (m + 1) (fs ++ gs)

-- A file that is accepted, with m messages and these fields: it is not empty, not too large, and all of it is messages.
pub record Accepted (file : List ℕ) (m : ℕ) (fs : List Located) : Type 0 where
  pub some : 1 ≤ length file
  pub few : length file ≤ largest
  pub messages : Messages file 0 m fs
