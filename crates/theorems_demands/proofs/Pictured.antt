-- The proof of what is said of a picture: its octets are the lines and the greys of the field's points, by the largest X of those that are present.
use mathlib.Core.Path.{◌≡◌, refl, sym, ap, subst, ◌∙◌}
use mathlib.Core.Bool.{true, false}
use mathlib.Core.List.{List, ◌++◌}
use Prim.Native.Nat.{ℕ, ◌≤◌, ◌<◌}
use native.Mathlib.Omega.{arith}
use borrow.Author.Tests.{ltb-false, eqb-true, eqb-false}
use lib.Dec.{eqb, ltb}
use lib.IntN.{nat_abs}
use lib.ListN.{length}
use Rattle.octets.proofs.Cases.{apart, split}
use Rattle.laws_rows.specs.Rows.{row, laid}
use Rattle.greys.specs.Greys.{grey_of, point_grey}
use Rattle.greys.proofs.Laws.{grey_never_falls, grey_of_the_largest, grey_present}
use Rattle.section_3_geometry.specs.Geometry.{frame_of, points_of}
use Rattle.values_integers.proofs.Range.{in_range_one}
use Rattle.question.specs.declared.Description.{Description}
use Rattle.question.specs.Describe.{describe}
use Rattle.question.specs.Judge.{Known, integer_of, is_decodable}
use Rattle.question_decode.specs.Decoding.{present_of, rank_of}
use Rattle.question_decode.proofs.Laws.{one_or_zero, rank_among}
use Rattle.question_picture.specs.Picture.{largest_present, header, picture_length, point_integer, drawing_by, pictured_by, pictured, run_left}
use Rattle.question_picture.proofs.Laws.{largest_bounds, largest_reached, start_lines, start_points, start_behind}
use Rattle.theorems_demands.specs.Pictured.{HasX, IsLargest, Grey, octet_in, Draws, AsSeen}
use Rattle.theorems_demands.proofs.Demand1.{described_at_lem}
use Rattle.theorems_demands.proofs.Alone.{own_size}
use Rattle.std.specs.Prelude.{Result, Ok, Err}
use Rattle.refusals.specs.declared.Refusal.{Refusal}
use Rattle.question.proofs.Laws.{one_answer}

module _ (file : List ℕ) (d : Description) (known : Known file d) (all : is_decodable file d ≡ true) where
  abbrev points : ℕ
  points = points_of d.grid

  abbrev most : ℕ
  most = largest_present (present_of file d) (point_integer file d) points

  few : (i : ℕ) → present_of file d i < 2
  few i = one_or_zero file d.presence points i

  -- A point that is present has the standard's X, in its range.
  has_x : (i : ℕ) → i < points → present_of file d i ≡ 1 → HasX file d i (point_integer file d i) × (point_integer file d i ≤ 2147483647)
  has_x i h is =
      let size = own_size (integer_of file d (rank_of file d i)) (in_range_one (integer_of file d) d.representation.n {j = rank_of file d i} all (rank_among file d known i h is)) in
      (record { among = h; present = is; standard = size.0 }, size.1)

  largest_met : IsLargest file d most
  largest_met =
      record {
        bounds = λ i x has. let size : point_integer file d i ≡ x = ap nat_abs has.standard in omega (arith, size, largest_bounds (present_of file d) (point_integer file d) few points i has.among has.present);
        reached =
            λ some.
            let r = largest_reached (present_of file d) (point_integer file d) few points some in
            (r.0, subst (HasX file d r.0) r.3 (has_x r.0 r.1 r.2).0);
      }

  grey_met : (i : ℕ) → i < points → Grey file d most i (point_grey most (present_of file d i) (point_integer file d i))
  grey_met i h =
      record {
        missing = λ is. ap (λ (m : ℕ). point_grey most m (point_integer file d i)) is;
        present = λ is. let has = has_x i h is in (point_integer file d i, has.0, has.1, ap (λ (m : ℕ). point_grey most m (point_integer file d i)) is);
      }

-- The run that a call leaves begins with the picture.
module _ (file : List ℕ) (k : ℕ) (run : List ℕ) where
  draws_met : (d : Description) → describe file k ≡ Ok d → ltb (length run) (picture_length (frame_of d.grid)) ≡ false → is_decodable file d ≡ true → Draws file k run (run_left file k run) d
  draws_met d said enough all =
      let lines = header (frame_of d.grid) in
      let n = points_of d.grid in
      let grey : ℕ → ℕ = λ (i : ℕ). point_grey (most file d (k, said) all) (present_of file d i) (point_integer file d i) in
      let left : run_left file k run ≡ laid run 0 (lines ++ row grey n) = rw (said, enough, all) refl in
      record {
        describes = described_at_lem file k said;
        fits = ltb-false (length run) (picture_length (frame_of d.grid)) enough;
        lines = λ i h. rw left (start_lines run lines grey n 0 i h);
        largest = most file d (k, said) all;
        is_largest = largest_met file d (k, said) all;
        points = λ i h. rw (left, start_points run lines grey n 0 i h) (grey_met file d (k, said) all i h);
        behind = λ i h. rw left (start_behind run lines grey n 0 i h);
      }

  -- A call that answers with a length has drawn the field.
  pub drawn : (n : ℕ) → pictured file k (length run) ≡ Ok n → (d : Description) × Draws file k run (run_left file k run) d × (picture_length (frame_of d.grid) ≡ n)
  drawn n = by (describe file k) refl
    where
      by : (a : Result Description Refusal) → describe file k ≡ a → pictured_by (drawing_by file (length run) a) ≡ Ok n → (d : Description) × Draws file k run (run_left file k run) d × (picture_length (frame_of d.grid) ≡ n)
      by (Ok d) said e =
          split (ltb (length run) (picture_length (frame_of d.grid)))
          (λ none. let other = rw none at e in apart cc)
          (λ enough.
          split (is_decodable file d)
          (λ all. (d, draws_met d said enough all, one_answer (rw (enough, all) at e)))
          (λ fails. let other = rw (enough, fails) at e in apart cc))
      by (Err r) said e = apart cc

-- What is seen in it.
module _ {file : List ℕ} {k : ℕ} {run left : List ℕ} {d : Description} (drawn : Draws file k run left d) where
  -- The octet of a point that has x is the grey of x.
  octet_grey : (i x : ℕ) → HasX file d i x → octet_in d left i ≡ grey_of drawn.largest x
  octet_grey i x has =
      let grey = (drawn.points i has.among).present has.present in
      let same : grey.0 ≡ x = ap nat_abs (sym grey.1.standard ∙ has.standard) in
      grey.3 ∙ ap (grey_of drawn.largest) same

  -- There is one largest X at most.
  one_largest : (m : ℕ) → IsLargest file d m → 1 ≤ m → drawn.largest ≡ m
  one_largest m is some =
      let here = is.reached some in
      let most = drawn.is_largest.bounds here.0 m here.1 in
      let there = drawn.is_largest.reached (omega (arith, most)) in
      omega (arith, most, is.bounds there.0 drawn.largest there.1)

  pub as_seen : AsSeen file d (octet_in d left)
  as_seen =
      record {
        never_falls = λ i j x y one other less. rw (octet_grey i x one, octet_grey j y other) (grey_never_falls drawn.largest less);
        white = λ i m is some has. octet_grey i m has ∙ ap (λ (n : ℕ). grey_of n m) (one_largest m is some) ∙ grey_of_the_largest m some;
        black = λ i h. (seen i h, (drawn.points i h).missing);
      }
    where
      seen : (i : ℕ) → i < points_of d.grid → octet_in d left i ≡ 0 → present_of file d i ≡ 0
      seen i h e =
          split (eqb (present_of file d i) 1)
          (λ is.
          let grey = (drawn.points i h).present (eqb-true (present_of file d i) 1 is) in
          absurd (omega (arith, grey.3, grey_present drawn.largest grey.0)))
          (λ not. omega (arith, one_or_zero file d.presence (points_of d.grid) i, eqb-false (present_of file d i) 1 not))
