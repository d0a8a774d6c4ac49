-- The proof of what is promised to those who call the reader: their contracts cite what the demands speak of, and the one number tells it.
use Prim.Native.Nat.{ℕ, zero, suc, ◌+◌, ◌*◌, ◌^◌, ◌≤◌, ◌<◌}
use mathlib.Core.Path.{◌≡◌, refl, sym, ap, subst, ◌∙◌}
use mathlib.Core.Bool.{false}
use mathlib.Core.List.{List}
use native.Mathlib.Nat.{zero-add}
use native.Mathlib.Omega.{arith}
use borrow.Author.Tests.{ltb-true, ltb-false, eqb-true, eqb-false}
use lib.Dec.{eqb, ltb}
use lib.ListN.{length}
use lib.IntN.{ℤ, pos}
use lib.Ieee.{Float, fin}
use Rattle.octets.proofs.Cases.{apart, split}
use Rattle.refusals.specs.declared.Refusal.{Refusal}
use Rattle.refusals.specs.Refusals.{number_of, code_of}
use Rattle.refusals.proofs.Laws.{numbered}
use Rattle.tiling.specs.Tiling as Tiling
use Rattle.tiling.proofs.Bounds.{Small, check_bounded}
use Rattle.question.specs.declared.Description.{Description}
use Rattle.question.specs.Describe as Describe
use Rattle.question_decode.proofs.Laws.{Small as DecodedSmall, decode_small, one_or_zero}
use Rattle.question.specs.Judge.{Asks, description_length, judge}
use Rattle.section_3_geometry.specs.declared.Grid.{Grid}
use Rattle.section_3_geometry.specs.Geometry.{points_of}
use Rattle.section_3_positions.specs.Quotients.{position_of}
use Rattle.section_3_positions.proofs.Laws.{position_lies}
use Rattle.question.proofs.Laws.{one_answer, judge_placed, judged_numbers}
use Rattle.question_place.specs.Place.{on_degrees, on_lambert}
use Rattle.question_place.proofs.Laws.{judged_degrees, judged_lambert, degrees_placed, lambert_placed}
use Rattle.question_decode.specs.Decoding.{present_of}
use Rattle.question_point.specs.Point as Single
use Rattle.question_point.proofs.Laws.{Answerable, point_answerable, Told, answered_point}
use Rattle.question_picture.specs.Picture as Picture
use Rattle.question_picture.proofs.Laws.{Modest, picture_modest}
use Rattle.question_numbers.specs.Numbers.{numbers_of}
use Rattle.question_numbers.proofs.Laws.{description_length_lem}
use Rattle.skeptolyr.specs.Codes.{check_code, decode_code, point_code, point_left, picture_code, numbers_code, numbers_left, described_as, placed_as, sheet_as, described_for, placed_for, sheet_for}
use Rattle.listing_file.specs.declared.Printout.{Printout}
use Rattle.listing_file.specs.Listing.{most_octets, line_of, lines_of, checked_text, listing_of, Prints}
use Rattle.theorems_demands.specs.Questions.{Question, verdict, refused_by, of_checked, of_described, of_degrees, of_lambert, of_decoded, of_pointed, of_pictured, check, describe, picture, describe_into, place_into, sheet_into, point_into}
use Rattle.theorems_demands.specs.Alone.{Alone, Agrees, both_present, both_missing}
use Rattle.theorems_demands.specs.Demand2.{BothRuns, value_in, mark_in, Call, HasPoint, answer_to, left_behind}
use Rattle.theorems_demands.proofs.Demand1.{demand_1}
use Rattle.theorems_demands.proofs.Demand2.{demand_2}
use Rattle.theorems_demands.proofs.Demand3.{demand_3}
use Rattle.theorems_outcomes.proofs.Facts.{from_one, from_two, from_three}
use Rattle.theorems_calls.specs.Calls.{Refuses, Checks, decode_of, runs_of, call_of, DecodeKeeps, DescribeKeeps, OnGrid, PlaceKeeps, SheetKeeps, PointKeeps, PictureKeeps, Line, Lines, Listed, ListingPrints, Calls, RattleCalls}
use Rattle.theorems_calls.specs.Calls as Spec
use Rattle.std.specs.Prelude.{Option, Some, None, Result, Ok, Err}
use Rattle.tiling.specs.declared.Counts.{Counts}
use Rattle.section_3_geometry.specs.declared.DegreeGrid.{DegreeGrid}
use Rattle.section_3_geometry.specs.declared.LambertGrid.{LambertGrid}
use Rattle.tiling.specs.Tiling.{both_counts}

-- A description has few numbers.
few_numbers : (g : Grid) → description_length g ≤ 60
few_numbers (Grid.Degrees g) = omega arith
few_numbers (Grid.Lambert g) = omega arith

module _ (file : List ℕ) where
  -- A refusal whose place fits is told by its number and its place.
  refuses_so : (q : Question) (r : Refusal) → verdict file q ≡ refused_by r → r.place.0 < 2 ^ 32 → Refuses file q (code_of r)
  refuses_so q r e small =
      record { number = number_of r.why; place = r.place.0; first = ((demand_1 file).refuses q _ _).0 e; told = refl; fits = (omega (arith, numbered r.why), small) }

  checks_so : Checks file (check_code (Tiling.check file))
  checks_so = by (Tiling.check file) refl
    where
      by : (a : Result Counts Refusal) → Tiling.check file ≡ a → Checks file (check_code a)
      by (Ok counts) said =
          let small : Small (Ok counts) = subst Small said (check_bounded file) in
          let tiled = ((demand_2 file).accepts counts.messages counts.fields).0 said in
          record {
            refused = λ top. absurd (omega (arith, small, top));
            accepted =
                λ _. record { messages = counts.messages; fields = tiled.0; accepted = tiled.1; told = ap (λ (k : ℕ). counts.messages * 2 ^ 32 + k) (sym tiled.2); fits = (omega (arith, small), omega (arith, small, tiled.2)) };
          }
      by (Err r) said =
          let small : Small (Err r) = subst Small said (check_bounded file) in
          record { refused = λ _. refuses_so check r (ap of_checked said) (omega (arith, small)); accepted = λ below. absurd (omega (arith, below)) }

  decodes_so : (c : Call) → DecodeKeeps file c (decode_code (answer_to file c)) (left_behind file c)
  decodes_so c = by (answer_to file c) refl
    where
      bounded : {a : Result ℕ Refusal} → answer_to file c ≡ a → DecodedSmall a
      bounded said = subst DecodedSmall said (decode_small file c.k c.start (length c.before.values) (length c.before.presence))

      by : (a : Result ℕ Refusal) → answer_to file c ≡ a → DecodeKeeps file c (decode_code a) (left_behind file c)
      by (Ok n) said =
          let small : DecodedSmall (Ok n) = bounded said in
          record {
            refused = λ top. absurd (omega (arith, small, top));
            answered = λ _. ((demand_1 file).answers (decode_of c)).0 (ap of_decoded said);
            decoded = λ _. (demand_2 file).decodes c n said;
            near = λ _ d decodes. (demand_3 file).near c n d said decodes;
          }
      by (Err r) said =
          let small : DecodedSmall (Err r) = bounded said in
          let kept = (demand_1 file).untouched c.k c.start c.before.values c.before.presence _ _ (ap of_decoded said) in
          record {
            refused = λ _. (refuses_so (decode_of c) r (ap of_decoded said) (omega (arith, small)), λ i. record { values = kept.0 i; presence = kept.1 i });
            answered = λ below. absurd (omega (arith, below));
            decoded = λ below. absurd (omega (arith, below));
            near = λ below. absurd (omega (arith, below));
          }

  -- The same of a number and of two runs that are known to be these.
  decodes_by : (c : Call) (code : ℕ) (left : BothRuns) →
      code ≡ decode_code (answer_to file c) → left.values ≡ (left_behind file c).values → left.presence ≡ (left_behind file c).presence → DecodeKeeps file c code left
  decodes_by c code left e v p =
      let same : left_behind file c ≡ left = λ i. record { values = sym v i; presence = sym p i } in
      subst (λ (n : ℕ). DecodeKeeps file c n left) (sym e) (subst (DecodeKeeps file c (decode_code (answer_to file c))) same (decodes_so c))

  describes_so : (k : ℕ) (before : List ℤ) → DescribeKeeps file k before (numbers_code (described_for file k before)) (numbers_left before (described_for file k before))
  describes_so k before = by (judge file k (Asks.Numbers (length before))) refl
    where
      by : (a : Result Description Refusal) → judge file k (Asks.Numbers (length before)) ≡ a → DescribeKeeps file k before (numbers_code (described_as a)) (numbers_left before (described_as a))
      by (Ok d) said =
          let known = ((demand_2 file).describes k d).0 (judged_numbers file k (length before) said).0 in
          record {
            refused = λ top. absurd (omega (arith, description_length_lem d, few_numbers d.grid, top));
            answered = λ _. ((demand_1 file).answers (describe_into k (length before))).0 (ap of_described said);
            described = λ _. (known.0, d, known.1, known.2, (refl, sym (zero-add (length (numbers_of d)))));
          }
      by (Err r) said =
          record {
            refused = λ _. (refuses_so (describe_into k (length before)) r (ap of_described said) (omega (arith, judge_placed file k (Asks.Numbers (length before)) said)), refl);
            answered = λ below. absurd (omega (arith, below));
            described = λ below. absurd (omega (arith, below));
          }

  -- The grid of a field on which a point is told.
  on_grid : (k n : ℕ) {g : Grid} → HasPoint file k n g → OnGrid file k n g
  on_grid k n has =
      let known = ((demand_2 file).describes k has.d).0 has.describes in
      record { l = known.0; d = has.d; lies = known.1; judged = known.2; grid = has.grid; below = has.below }

  places_so : (k n : ℕ) (before : List ℤ) → PlaceKeeps file k n before (numbers_code (placed_for file k n before)) (numbers_left before (placed_for file k n before))
  places_so k n before = by (on_degrees file k n (length before)) refl
    where
      by : (o : Result DegreeGrid Refusal) → on_degrees file k n (length before) ≡ o → PlaceKeeps file k n before (numbers_code (placed_as n o)) (numbers_left before (placed_as n o))
      by (Ok g) said =
          let known = judged_degrees file k n (length before) said in
          record {
            refused = λ top. absurd (omega (arith, top));
            answered = λ _. ((demand_1 file).answers (place_into k n (length before))).0 (ap of_degrees said);
            placed = λ _. (g, position_of g n, on_grid k n (record { d = known.d; describes = known.describes; grid = known.kind; below = known.below }), position_lies g n, (refl, refl));
          }
      by (Err r) said =
          record {
            refused = λ _. (refuses_so (place_into k n (length before)) r (ap of_degrees said) (omega (arith, degrees_placed file k n (length before) said)), refl);
            answered = λ below. absurd (omega (arith, below));
            placed = λ below. absurd (omega (arith, below));
          }

  sheets_so : (k n : ℕ) (before : List ℤ) → SheetKeeps file k n before (numbers_code (sheet_for file k n before)) (numbers_left before (sheet_for file k n before))
  sheets_so k n before = by (on_lambert file k n (length before)) refl
    where
      by : (o : Result LambertGrid Refusal) → on_lambert file k n (length before) ≡ o → SheetKeeps file k n before (numbers_code (sheet_as n o)) (numbers_left before (sheet_as n o))
      by (Ok g) said =
          let known = judged_lambert file k n (length before) said in
          record {
            refused = λ top. absurd (omega (arith, top));
            answered = λ _. ((demand_1 file).answers (sheet_into k n (length before))).0 (ap of_lambert said);
            placed = λ _. (g, on_grid k n (record { d = known.d; describes = known.describes; grid = known.kind; below = known.below }), (refl, refl));
          }
      by (Err r) said =
          record {
            refused = λ _. (refuses_so (sheet_into k n (length before)) r (ap of_lambert said) (omega (arith, lambert_placed file k n (length before) said)), refl);
            answered = λ below. absurd (omega (arith, below));
            placed = λ below. absurd (omega (arith, below));
          }

  -- A field is described in one way.
  one_field : (k n : ℕ) {g : Grid} (at : OnGrid file k n g) → Describe.describe file k ≡ Ok at.d
  one_field k n at = ((demand_2 file).describes k at.d).1 (at.l, at.lies, at.judged)

  -- A point that is told alone: it is there, by its mark and its double, and where decode answers it has the same.
  module _ (k n : ℕ) {a : Result (Option Float) Refusal} (told : Told file k n a) where
    its_grid : OnGrid file k n told.d.grid
    its_grid = on_grid k n (record { d = told.d; describes = told.describes; grid = refl; below = told.below })

    its_own : Alone file told.d n a
    its_own = subst (Alone file told.d n) told.alone ((demand_2 file).alone k n told.d told.describes told.below)

    its_agreement : (c : Call) (points : ℕ) → c.k ≡ k → answer_to file c ≡ Ok points → Agrees a (value_in (left_behind file c) (c.start + n)) (mark_in (left_behind file c) (c.start + n))
    its_agreement c points same said =
        let decoded = (demand_2 file).decodes c points said in
        let found = ((demand_2 file).describes c.k decoded.0).1 decoded.1.describes in
        let d : decoded.0 ≡ told.d = one_answer (sym found ∙ ap (Describe.describe file) same ∙ told.describes) in
        let inside : n < points = subst (λ (m : ℕ). n < m) (sym (ap (λ (e : Description). points_of e.grid) d) ∙ decoded.2) told.below in
        subst (λ (b : Result (Option Float) Refusal). Agrees b (value_in (left_behind file c) (c.start + n)) (mark_in (left_behind file c) (c.start + n)))
        (ap (λ (j : ℕ). Single.point file j n) same ∙ told.alone) ((demand_2 file).agree c points n said inside)

  agreed_value : {a : Result (Option Float) Refusal} {v w : Float} {m : ℕ} → Agrees a w m → a ≡ Ok (Some v) → (w ≡ v) × (m ≡ 1)
  agreed_value both_present e = (cc, refl)
  agreed_value both_missing e = apart cc

  agreed_missing : {a : Result (Option Float) Refusal} {w : Float} {m : ℕ} → Agrees a w m → a ≡ Ok None → (w ≡ fin false 0 (pos 0)) × (m ≡ 0)
  agreed_missing both_present e = apart cc
  agreed_missing both_missing e = (refl, refl)

  -- A point is present or missing, and one that has a value is present.
  value_present : (k n : ℕ) {v : Float} (told : Told file k n (Ok (Some v))) → present_of file told.d n ≡ 1
  value_present k n {v} told =
      split (eqb (present_of file told.d n) 0)
      (λ none. let other = (its_own k n told).missing.1 (eqb-true (present_of file told.d n) 0 none) in apart cc)
      (λ some. omega (arith, eqb-false (present_of file told.d n) 0 some, one_or_zero file told.d.presence (points_of told.d.grid) n))

  points_so : (k n : ℕ) (before : List Float) → PointKeeps file k n before (point_code (Single.point_into file k n (length before))) (point_left before (Single.point_into file k n (length before)))
  unfolding its_grid on_grid
  points_so k n before = by (Single.point_into file k n (length before)) refl
    where
      by : (a : Result (Option Float) Refusal) → Single.point_into file k n (length before) ≡ a → PointKeeps file k n before (point_code a) (point_left before a)
      by (Ok (Some v)) said =
          let told = answered_point file k n (length before) (Ok (Some v)) said tt in
          let one = value_present k n told in
          record {
            refused = λ top. absurd (omega (arith, top));
            answered = λ _. ((demand_1 file).answers (point_into k n (length before))).0 (ap of_pointed said);
            told =
                λ _. (
                  told.d.grid,
                  its_grid k n told,
                  record { marked = sym one; one_or_zero = omega arith; missing = λ e. absurd (omega arith); present = λ _. (its_own k n told).value v refl },
                  refl,
                );
            near =
                λ _ g at x standard.
                (demand_3 file).near_alone k n x at.d v (one_field k n at) (subst (λ (h : Grid). n < points_of h) (sym at.grid) at.below) told.alone standard;
            alike = λ _ c points same decoded. agreed_value (its_agreement k n told c points same decoded) refl;
          }
      by (Ok None) said =
          let told = answered_point file k n (length before) (Ok None) said tt in
          let none = (its_own k n told).missing.0 refl in
          record {
            refused = λ top. absurd (omega (arith, top));
            answered = λ _. ((demand_1 file).answers (point_into k n (length before))).0 (ap of_pointed said);
            told = λ _. (told.d.grid, its_grid k n told, record { marked = sym none; one_or_zero = omega arith; missing = λ _. refl; present = λ e. absurd (omega arith) }, refl);
            near = λ e. absurd (omega arith);
            alike = λ _ c points same decoded. agreed_missing (its_agreement k n told c points same decoded) refl;
          }
      by (Err r) said =
          let small : Answerable (length before) (Err r) = subst (Answerable (length before)) said (point_answerable file k n (length before)) in
          record {
            refused = λ _. (refuses_so (point_into k n (length before)) r (ap of_pointed said) (omega (arith, small)), refl);
            answered = λ below. absurd (omega (arith, below));
            told = λ below. absurd (omega (arith, below));
            near = λ e. absurd (omega (arith, e));
            alike = λ below. absurd (omega (arith, below));
          }

  draws_so : (k : ℕ) (before : List ℕ) → PictureKeeps file k before (picture_code (Picture.pictured file k (length before))) (Picture.run_left file k before)
  draws_so k before = by (Picture.pictured file k (length before)) refl
    where
      by : (a : Result ℕ Refusal) → Picture.pictured file k (length before) ≡ a → PictureKeeps file k before (picture_code a) (Picture.run_left file k before)
      by (Ok n) said =
          let small : Modest (Ok n) = subst Modest said (picture_modest file k (length before)) in
          let found = (demand_2 file).draws k before n said in
          record {
            refused = λ top. absurd (omega (arith, small, top));
            answered = λ _. ((demand_1 file).answers (picture k (length before))).0 (ap of_pictured said);
            drawn = λ _. (found.0, found.1, (demand_2 file).seen k before (Picture.run_left file k before) found.0 found.1, found.2);
          }
      by (Err r) said =
          let small : Modest (Err r) = subst Modest said (picture_modest file k (length before)) in
          record {
            refused = λ _. (refuses_so (picture k (length before)) r (ap of_pictured said) (omega (arith, small)), (demand_1 file).undrawn k before _ _ (ap of_pictured said));
            answered = λ below. absurd (omega (arith, below));
            drawn = λ below. absurd (omega (arith, below));
          }

  line_so : (k : ℕ) → Line file k (line_of file k)
  unfolding line_of
  line_so k = by (Describe.describe file k) refl
    where
      by : (a : Result Description Refusal) → Describe.describe file k ≡ a → Line file k (line_of file k)
      by (Ok d) said = let known = ((demand_2 file).describes k d).0 said in rw said (Spec.Line.described known.1 known.2)
      by (Err r) said = rw said (Spec.Line.refused (((demand_1 file).refuses (describe k) _ _).0 (ap of_described said)))

  lines_so : (n : ℕ) → Lines file n (lines_of file n)
  unfolding lines_of
  lines_so zero = Spec.Lines.none
  lines_so (suc k) = Spec.Lines.next (lines_so k) (line_so k)

  listed_so : Listed file (listing_of file)
  unfolding listing_of
  listed_so =
      split (ltb most_octets (length file))
      (λ long. rw long (Spec.Listed.too_long (ltb-true _ _ long)))
      (λ short. rw short (by (ltb-false _ _ short) (Tiling.check file) refl))
    where
      by : length file ≤ most_octets → (a : Result Counts Refusal) → Tiling.check file ≡ a → Listed file (checked_text file a)
      by few (Ok counts) said =
          let tiled = ((demand_2 file).accepts counts.messages counts.fields).0 said in
          subst (λ (k : ℕ). Listed file (checked_text file (Ok (both_counts counts.messages k)))) tiled.2 (Spec.Listed.accepted few tiled.1 (lines_so (length tiled.0)))
      by few (Err r) said = Spec.Listed.refused few (((demand_1 file).refuses check _ _).0 (ap of_checked said))

-- What is printed is the listing of the input that was read, or that it cannot be read.
prints_so : (run : List ℕ) (got : ℕ) (again : Option ℕ) (before after : List ℕ) (p : Printout) → Prints run got again before after p → ListingPrints run got again before after p
prints_so run got (Some m) before after p h =
    record {
      listed = λ n same whole read. (record { text = listing_of whole; listed = listed_so whole; put = h.puts whole read }, h.prints_to);
      unreadable = λ same whole read. apart cc;
    }
prints_so run got None before after p h =
    record {
      listed = λ n same whole read. apart cc;
      unreadable = λ same whole read. (h.puts whole read, h.prints_to);
    }

-- What is kept of a number and of a run is kept of those that are known to be these.
told_by_lem : {A : Type 0} (Keeps : ℕ → List A → Type 0) {code answer : ℕ} {run left : List A} → answer ≡ code → left ≡ run → Keeps code run → Keeps answer left
told_by_lem Keeps {code} {answer} {run} {left} e l kept = subst (λ (n : ℕ). Keeps n left) (sym e) (subst (Keeps code) (sym l) kept)

pub calls : Calls
calls =
    record {
      check = λ _ 𝓤 _ _ _ _ given _ answer _. from_one 𝓤 (λ e. subst (Checks given.0.now) (sym e) (checks_so given.0.now));
      describe =
          λ _ 𝓤 _ _ _ _ given _ answer lasts.
          from_two 𝓤
          (λ e left. told_by_lem (DescribeKeeps given.0.now given.1.0 given.1.1.0.now) e left (describes_so given.0.now given.1.0 given.1.1.0.now));
      place =
          λ _ 𝓤 _ _ _ _ given _ answer lasts.
          from_two 𝓤
          (λ e left.
          told_by_lem (PlaceKeeps given.0.now given.1.0 given.1.1.0 given.1.1.1.0.now) e left
          (places_so given.0.now given.1.0 given.1.1.0 given.1.1.1.0.now));
      sheet =
          λ _ 𝓤 _ _ _ _ given _ answer lasts.
          from_two 𝓤
          (λ e left.
          told_by_lem (SheetKeeps given.0.now given.1.0 given.1.1.0 given.1.1.1.0.now) e left
          (sheets_so given.0.now given.1.0 given.1.1.0 given.1.1.1.0.now));
      point =
          λ _ 𝓤 _ _ _ _ given _ answer lasts.
          from_two 𝓤
          (λ e left.
          told_by_lem (PointKeeps given.0.now given.1.0 given.1.1.0 given.1.1.1.0.now) e left
          (points_so given.0.now given.1.0 given.1.1.0 given.1.1.1.0.now));
      picture =
          λ _ 𝓤 _ _ _ _ given _ answer lasts.
          from_two 𝓤
          (λ e left. told_by_lem (PictureKeeps given.0.now given.1.0 given.1.1.0.now) e left (draws_so given.0.now given.1.0 given.1.1.0.now));
      decode =
          λ _ 𝓤 _ _ _ _ given _ answer lasts.
          from_three 𝓤
          (decodes_by given.0.now
          (call_of given.1.0 given.1.1.0 (runs_of given.1.1.1.0.now given.1.1.1.1.0.now)) answer (runs_of lasts.1.1.1.0 lasts.1.1.1.1.0));
      list = λ _ 𝓤 _ _ _ _ given _ answer lasts. from_one 𝓤 (λ p. record { text = listing_of given.1.0.now; listed = listed_so given.1.0.now; put = p });
      print = λ _ 𝓤 _ _ _ _ given _ answer lasts. from_one 𝓤 (prints_so given.1.0.now given.1.1.0 given.1.1.1.0 given.0.now lasts.0 answer);
    }

pub rattle_calls : RattleCalls
rattle_calls =
    record {
      check = λ _ 𝓤 _ _ _ _ _ _ _ _. from_one 𝓤 (λ e. e);
      describe = λ _ 𝓤 _ _ _ _ _ _ _ _. from_one 𝓤 (λ e. e);
      place = λ _ 𝓤 _ _ _ _ _ _ _ _. from_one 𝓤 (λ e. e);
      sheet = λ _ 𝓤 _ _ _ _ _ _ _ _. from_one 𝓤 (λ e. e);
      point = λ _ 𝓤 _ _ _ _ _ _ _ _. from_one 𝓤 (λ e. e);
      picture = λ _ 𝓤 _ _ _ _ _ _ _ _. from_two 𝓤 (λ e left. (e, left));
      decode = λ _ 𝓤 _ _ _ _ _ _ _ _. from_three 𝓤 (λ e v p. (e, λ i. record { values = v i; presence = p i }));
      rebuild = λ _ 𝓤 _ _ _ _ _ _ _ _. from_one 𝓤 (λ e. e);
    }
