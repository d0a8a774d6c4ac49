-- The proof of demand 2: what check, describe and place answer, and what decode writes, is what the standard defines.
use mathlib.Core.Path.{◌≡◌, refl, sym, ap, subst, ◌∙◌}
use mathlib.Core.Bool.{true}
use mathlib.Core.List.{List}
use Prim.Native.Nat.{ℕ, ◌+◌, ◌≤◌, ◌<◌}
use native.Mathlib.Omega.{arith}
use lib.IntN.{nat_abs}
use lib.ListN.{length}
use lib.Ieee.{nan}
use Rattle.octets.proofs.Cases.{apart, split}
use Rattle.refusals.specs.declared.Refusal.{Refusal}
use Rattle.refusals.specs.declared.Why.TheVariants as Why
use Rattle.refusals.specs.Refusals.{refusal, number_of}
use Rattle.laws_rows.specs.Rows.{row, laid}
use Rattle.laws_rows.proofs.Laws.{laid_within, laid_before, laid_behind}
use Rattle.doubles.specs.Doubles.{packing_of, value_of}
use Rattle.theorems_grammar.proofs.Accepted.{counts}
use Rattle.theorems_grammar.proofs.Unique.{unique}
use Rattle.section_3_geometry.specs.declared.Position.{Position}
use Rattle.section_3_geometry.specs.declared.DegreeGrid.{DegreeGrid}
use Rattle.section_3_geometry.specs.declared.LambertGrid.{LambertGrid}
use Rattle.section_3_geometry.specs.declared.Grid.TheVariants as Grid
use Rattle.section_3_geometry.specs.Geometry.{points_of}
use Rattle.section_3_geometry.proofs.Laws.{taken_measured}
use Rattle.section_3_positions.specs.Positions.{LiesAt}
use Rattle.section_3_positions.specs.Expected.{AsExpected}
use Rattle.section_3_positions.proofs.Laws.{position_lies, lies_once, lie_as_expected}
use Rattle.section_3_lambert.specs.declared.SheetPlace.{SheetPlace}
use Rattle.section_3_lambert.specs.Sheet.{sheet_of}
use Rattle.section_3.proofs.Laws.{Passes}
use Rattle.values_points.specs.Points.{point_value}
use Rattle.values_integers.proofs.Range.{in_range_one}
use Rattle.question.specs.declared.Description.{Description}
use Rattle.question.specs.Describe.{describe}
use Rattle.question.specs.Judge.{Asks, Known, integer_of, is_decodable, has_room, asked_of, judge}
use Rattle.question.proofs.Laws.{one_answer, judged_described, judged_values, described_grid, room_fits}
use Rattle.question_place.specs.Place.{place_length, on_degrees, on_lambert, placed_by, place, sheet_by, sheet}
use Rattle.question_place.proofs.Laws.{Placeable, judged_degrees, degrees_judged, judged_lambert, lambert_judged, degrees_passes}
use Rattle.question_decode.specs.Decoding as Decoding
use Rattle.question_decode.specs.Decoding.{packing_by, present_of, rank_of, double_of, Outcome, outcome, outcome_by, answer_of, values_after, presence_after}
use Rattle.question_decode.proofs.Laws.{one_or_zero, rank_among}
use Rattle.question_point.specs.Point.{point}
use Rattle.theorems_demands.specs.Alone.{Present, Alone, Agrees}
use Rattle.theorems_demands.specs.Demand2.{Point, value_in, mark_in, HasPoint, Call, left_behind, answer_to, Decodes, Demand2}
use Rattle.theorems_demands.proofs.Demand1.{described_is, described_at_lem, describe_not_outside}
use Rattle.theorems_demands.proofs.Alone.{own_size, told_alone, agreed}
use Rattle.theorems_demands.proofs.Numbers.{in_numbers}
use Rattle.theorems_demands.proofs.Pictured.{drawn, as_seen}
use Rattle.std.specs.Prelude.{Result, Ok, Err}

-- A refusal is one alone.
one_outside : {a b : ℕ} → ◌≡◌ {A = Result ℕ Refusal} (Err (refusal Why.ValueOutOfRange a)) (Err (refusal Why.ValueOutOfRange b)) → b ≡ a
one_outside {a} {b} e = let same : refusal Why.ValueOutOfRange a ≡ refusal Why.ValueOutOfRange b = cc in ap (λ (r : Refusal). r.place.0) (sym same)

other_outside : {b : ℕ} → ◌≡◌ {A = Result ℕ Refusal} (Err (refusal Why.NoRoom 0)) (Err (refusal Why.ValueOutOfRange b)) → ⊥
other_outside {b} e =
    let same : refusal Why.NoRoom 0 ≡ refusal Why.ValueOutOfRange b = cc in
    let numbers = ap (λ (r : Refusal). number_of r.why) same in
    absurd (omega arith)

module _ (file : List ℕ) (d : Description) (known : Known file d) (all : is_decodable file d ≡ true) where
  pub present_met : (i : ℕ) → i < points_of d.grid → present_of file d i ≡ 1 → Present file d i (double_of file d i)
  unfolding value_of
  present_met i h mark =
      let rank : ℕ = rank_of file d i in
      let size = own_size (integer_of file d rank) (in_range_one (integer_of file d) d.representation.n {j = rank} all (rank_among file d known i h mark)) in
      record {
        x = nat_abs (integer_of file d rank);
        standard = size.0;
        in_range = size.1;
        double = ap (λ (m : ℕ). point_value (packing_of d.representation.r d.representation.e d.representation.d) m (nat_abs (integer_of file d rank))) mark;
      }

  point_met : (i : ℕ) → i < points_of d.grid → Point file d i (double_of file d i) (present_of file d i)
  point_met i h =
      record {
        marked = refl;
        one_or_zero = one_or_zero file d.presence (points_of d.grid) i;
        missing = λ mark. ap (λ (m : ℕ). point_value (packing_by d.representation) m (nat_abs (integer_of file d (rank_of file d i)))) mark;
        present = present_met i h;
      }

module _ (file : List ℕ) (c : Call) where
  abbrev here : Outcome
  here = outcome file c.k c.start (length c.before.values) (length c.before.presence)

  -- The values of a field are given where it is described, there is room, and each of its integers is in its range.
  module _
      (d : Description)
      (said : describe file c.k ≡ Ok d)
      (room : has_room c.start (points_of d.grid) (length c.before.values) (length c.before.presence) ≡ true)
      (all : is_decodable file d ≡ true) where
    abbrev points : ℕ
    points = points_of d.grid

    given : here ≡ Decoding.gives points (row (double_of file d) points) (row (present_of file d) points)
    given = rw (said, room, all)

    fit : (c.start + points ≤ length c.before.values) × (c.start + points ≤ length c.before.presence)
    fit = room_fits c.start points (length c.before.values) (length c.before.presence) room

    value_is : values_after c.start c.before.values here ≡ laid c.before.values c.start (row (double_of file d) points)
    value_is = ap (values_after c.start c.before.values) given

    mark_is : presence_after c.start c.before.presence here ≡ laid c.before.presence c.start (row (present_of file d) points)
    mark_is = ap (presence_after c.start c.before.presence) given

    decodes_met : Decodes file c (left_behind file c) d
    decodes_met =
        record {
          describes = described_at_lem file c.k said;
          fits = fit;
          points =
              λ i h.
              rw (value_is, mark_is, laid_within c.before.values c.start (double_of file d) points nan fit.0 i h, laid_within c.before.presence c.start (present_of file d) points 0 fit.1 i h)
              (point_met file d (c.k, said) all i h);
          before = λ i h. rw (value_is, mark_is) (laid_before c.before.values c.start (double_of file d) points nan fit.0 i h, laid_before c.before.presence c.start (present_of file d) points 0 fit.1 i h);
          behind = λ i h. rw (value_is, mark_is) (laid_behind c.before.values c.start (double_of file d) points nan fit.0 i h, laid_behind c.before.presence c.start (present_of file d) points 0 fit.1 i h);
        }

    -- Each point that is asked for alone agrees with what is written for it.
    agreed_met : (i : ℕ) → i < points → Agrees (point file c.k i) (value_in (left_behind file c) (c.start + i)) (mark_in (left_behind file c) (c.start + i))
    agreed_met i h =
        let p = decodes_met.points i h in
        agreed file c.k i said h p.marked p.missing p.present
        (λ one j l. in_range_one (integer_of file d) d.representation.n {j = j} all (omega (arith, rank_among file d (c.k, said) i h one)))

  -- A call that answers with a count has decoded the field.
  pub decoded : (n : ℕ) → answer_to file c ≡ Ok n → (d : Description) × Decodes file c (left_behind file c) d × (points_of d.grid ≡ n)
  decoded n = by (judge file c.k (Asks.Values c.start (length c.before.values) (length c.before.presence))) refl
    where
      by : (a : Result Description Refusal) → judge file c.k (Asks.Values c.start (length c.before.values) (length c.before.presence)) ≡ a → answer_of (outcome_by file a) ≡ Ok n → (d : Description) × Decodes file c (left_behind file c) d × (points_of d.grid ≡ n)
      by (Ok d) said e =
          let known = judged_values file c.k c.start (length c.before.values) (length c.before.presence) said in
          (d, decodes_met d known.0 known.1 known.2, one_answer e)
      by (Err r) said e = apart cc

  pub agrees : (n i : ℕ) → answer_to file c ≡ Ok n → i < n → Agrees (point file c.k i) (value_in (left_behind file c) (c.start + i)) (mark_in (left_behind file c) (c.start + i))
  agrees n i = by (judge file c.k (Asks.Values c.start (length c.before.values) (length c.before.presence))) refl
    where
      by : (a : Result Description Refusal) → judge file c.k (Asks.Values c.start (length c.before.values) (length c.before.presence)) ≡ a → answer_of (outcome_by file a) ≡ Ok n → i < n →
          Agrees (point file c.k i) (value_in (left_behind file c) (c.start + i)) (mark_in (left_behind file c) (c.start + i))
      by (Ok d) said e h =
          let known = judged_values file c.k c.start (length c.before.values) (length c.before.presence) said in
          agreed_met d known.0 known.1 known.2 i (omega (arith, one_answer e, h))
      by (Err r) said e h = apart cc

  -- A call that is refused with 16 is about a field that is described, and the place is that of its section 7.
  pub besides : (place : ℕ) → answer_to file c ≡ Err (refusal Why.ValueOutOfRange place) →
      (d : Description) × (describe file c.k ≡ Ok d) × (place ≡ d.starts.seven.0) × ((n : ℕ) → n < points_of d.grid → Alone file d n (point file c.k n))
  besides place = by (describe file c.k) refl
    where
      by : (a : Result Description Refusal) → describe file c.k ≡ a → answer_of (outcome_by file (asked_of file (Asks.Values c.start (length c.before.values) (length c.before.presence)) a)) ≡ Err (refusal Why.ValueOutOfRange place) →
          (d : Description) × (describe file c.k ≡ Ok d) × (place ≡ d.starts.seven.0) × ((n : ℕ) → n < points_of d.grid → Alone file d n (point file c.k n))
      by (Err r) said e = let same : r ≡ refusal Why.ValueOutOfRange place = cc in absurd (describe_not_outside file c.k place (said ∙ ap Err same))
      by (Ok d) said e =
          split (has_room c.start (points_of d.grid) (length c.before.values) (length c.before.presence))
          (λ room.
          split (is_decodable file d)
          (λ all. let other = rw (room, all) at e in apart cc)
          (λ fails. let other = rw (room, fails) at e in (d, said, one_outside other, λ n below. told_alone file c.k n said below)))
          (λ none. absurd (other_outside (rw none at e)))

-- Where a point lies, in degrees.
module _ (file : List ℕ) (k n : ℕ) (p : Position) where
  abbrev Lies : Type 0
  Lies = (g : DegreeGrid) × HasPoint file k n (Grid.Degrees g) × LiesAt g n p

  placed_lies : place file k n ≡ Ok p → Lies
  placed_lies = by (on_degrees file k n place_length) refl
    where
      by : (o : Result DegreeGrid Refusal) → on_degrees file k n place_length ≡ o → placed_by n o ≡ Ok p → Lies
      by (Ok g) said e =
          let known = judged_degrees file k n place_length said in
          (g, record { d = known.d; describes = known.describes; grid = known.kind; below = known.below }, subst (LiesAt g n) (one_answer e) (position_lies g n))
      by (Err r) said e = apart cc

  lies_placed : Lies → place file k n ≡ Ok p
  lies_placed h =
      let g = h.0 in
      let known : Placeable file k n place_length (Grid.Degrees g) = record { d = h.1.d; describes = h.1.describes; kind = h.1.grid; below = h.1.below; fits = omega arith } in
      let passed = degrees_passes file k n place_length known in
      let measured = taken_measured g passed.0 passed.1 in
      ap (placed_by n) (degrees_judged file k n place_length known) ∙ ap Ok (lies_once g n measured.columns measured.rows (position_lies g n) h.2)

expected : (file : List ℕ) (k : ℕ) (d : Description) (g : DegreeGrid) → describe file k ≡ Ok d → d.grid ≡ Grid.Degrees g → AsExpected g
expected file k d g said kind =
    let grid = described_grid file k said in
    lie_as_expected g _ (subst (Passes file grid.0) kind grid.1).0

-- Where a point lies on the sheet.
module _ (file : List ℕ) (k n : ℕ) (p : SheetPlace) where
  abbrev Rolled : Type 0
  Rolled = (g : LambertGrid) × HasPoint file k n (Grid.Lambert g) × (p ≡ sheet_of g n)

  sheet_rolled : sheet file k n ≡ Ok p → Rolled
  sheet_rolled = by (on_lambert file k n place_length) refl
    where
      by : (o : Result LambertGrid Refusal) → on_lambert file k n place_length ≡ o → sheet_by n o ≡ Ok p → Rolled
      by (Ok g) said e =
          let known = judged_lambert file k n place_length said in
          (g, record { d = known.d; describes = known.describes; grid = known.kind; below = known.below }, sym (one_answer e))
      by (Err r) said e = apart cc

  rolled_sheet : Rolled → sheet file k n ≡ Ok p
  rolled_sheet h =
      let known : Placeable file k n place_length (Grid.Lambert h.0) = record { d = h.1.d; describes = h.1.describes; kind = h.1.grid; below = h.1.below; fits = omega arith } in
      ap (sheet_by n) (lambert_judged file k n place_length known) ∙ ap Ok (sym h.2)

pub demand_2 : (file : List ℕ) → Demand2 file
demand_2 file =
    record {
      accepts = counts file;
      one = unique;
      describes = λ k d. (λ said. described_at_lem file k said, λ h. described_is file h.1 ∙ judged_described file h.0 h.2);
      numbers = in_numbers file;
      places = λ k n p. (placed_lies file k n p, lies_placed file k n p);
      expected = expected file;
      sheets = λ k n p. (sheet_rolled file k n p, rolled_sheet file k n p);
      decodes = decoded file;
      alone = λ k n d said below. told_alone file k n said below;
      agree = agrees file;
      besides = besides file;
      draws = drawn file;
      seen = λ k run left d. as_seen;
    }
