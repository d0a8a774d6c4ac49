-- The proof of demand 1. A refusal that applies is caught: the question is refused by it, or by one that comes before it. And a question is refused only by
-- a refusal that applies.
use Prim.Native.Nat.{ℕ, suc, ◌+◌, ◌≤◌, ◌<◌}
use mathlib.Core.Path.{◌≡◌, refl, sym, ap, subst, ◌∙◌}
use mathlib.Core.Bool.{false, true}
use mathlib.Core.List.{List}
use mathlib.Core.Logic.{◌⊎◌, inl, inr}
use native.Mathlib.Omega.{arith}
use borrow.Author.Tests.{lt-ltb, le-ltb, ltb-true, ltb-false, le-leb, leb-true, eq-eqb, ne_eqb, eqb-true}
use lib.Dec.{eqb, leb, ltb}
use lib.ListN.{length, get_or}
use lib.Ieee.{Float}
use Rattle.octets.proofs.Cases.{apart, split}
use Rattle.refusals.specs.declared.Refusal.{Refusal}
use Rattle.refusals.specs.declared.Why as declaredWhy
use Rattle.refusals.specs.declared.Why.TheVariants as Why
use Rattle.refusals.specs.Refusals.{refusal, number_of, order, step_of, steps_before, rank}
use Rattle.refusals.proofs.Laws.{in_order}
use Rattle.tiling_sections.specs.declared.Located.{Located}
use Rattle.tiling_sections.specs.declared.Starts.{Starts}
use Rattle.tiling_sections.specs.Walk.{nowhere}
use Rattle.tiling_sections.specs.Stands as Stands
use Rattle.tiling.specs.Heads as Heads
use Rattle.tiling.specs.Tiling as Tiling
use Rattle.tiling.specs.Tiling.{largest, InFile, tiling_of}
use Rattle.theorems_grammar.specs.Refusals as Refusals
use Rattle.theorems_grammar.specs.Refusals.{Before, Faulty}
use Rattle.theorems_grammar.proofs.Accepted.{tiles_so}
use Rattle.theorems_grammar.proofs.Refusals.{refuses_so, check_refuses}
use Rattle.section_1.specs.declared.Identification.{Identification}
use Rattle.section_1.specs.Identification.{identification_at}
use Rattle.section_3_geometry.specs.declared.Grid.{Grid}
use Rattle.section_3_geometry.specs.Geometry.{frame_of, points_of, template_of}
use Rattle.section_3.specs.Section3.{grid_at}
use Rattle.section_4.specs.declared.ProductDefinition.{ProductDefinition}
use Rattle.section_4.specs.Product.{product_definition_at}
use Rattle.section_5.specs.declared.Representation.{Representation}
use Rattle.section_5.specs.Representation.{representation_at}
use Rattle.section_6.specs.declared.Presence.{Presence}
use Rattle.section_6.specs.Presence.{presence_at, present_at, present_before}
use Rattle.section_7.specs.Packing.{data_at}
use Rattle.doubles.specs.Doubles.{is_in_range}
use Rattle.values_integers.specs.Integers.{integer_at, are_in_range}
use Rattle.values_integers.proofs.Range.{in_range_out, out_of_range}
use Rattle.question.specs.declared.Description.{Description}
use Rattle.question.specs.Describe as Describe
use Rattle.question.specs.Describe.{refused_at, packed, marked, represented, defined, gridded, described_at, field_in}
use Rattle.question.specs.Judge.{Asks, integer_of, is_decodable, has_room, values_asked, description_length, numbers_asked, asked_of, judge}
use Rattle.question.specs.Judged.{Judged}
use Rattle.question.proofs.Laws.{described, described_judged, room_fits}
use Rattle.question.proofs.Chain.{at_section_1, at_section_3, at_section_4, at_section_5, at_section_6, at_section_7}
use Rattle.question_place.specs.Place.{point_asked, placed_by, sheet_by, on_degrees, on_lambert}
use Rattle.question_place.proofs.Laws.{kind_asked, point_of, in_degrees_as, on_lambert_as, degrees_alike, lambert_alike}
use Rattle.question_decode.specs.Decoding.{Outcome, gives, refuses, outcome_by, outcome, answer_of, values_after, presence_after, present_of, rank_of}
use Rattle.question_point.specs.Point as Point
use Rattle.question_point.specs.Point.{point_if, point_asked_of, pointed_by}
use Rattle.question_point.proofs.Laws.{told_out}
use Rattle.question_picture.specs.Picture as Picture
use Rattle.question_picture.specs.Picture.{picture_length, picture_asked}
use Rattle.theorems_demands.specs.Questions.{Question, Verdict, of_checked, of_described, of_placed, of_sheet, of_degrees, of_lambert, of_decoded, of_pointed, of_pictured, verdict, check, describe, place, sheet, decode, point, picture, describe_into, place_into, sheet_into, point_into, answered, refused, refused_by}
use Rattle.theorems_demands.specs.Demand1.{FieldAt, Names, describes, places, decodes, describes_into, places_into, sheets, sheets_into, tells, tells_into, draws, About, AsksPoint, in_degrees, in_degrees_into, on_sheet, on_sheet_into, its_value, its_value_into, AsksOf, for_place, for_place_into, for_sheet, for_sheet_into, AsksValue, a_value, a_value_into, Lends, lends, LendsOctets, lends_octets, LendsNumbers, for_degrees, for_lambert, Fault, Applies, First, Demand1}
use Rattle.theorems_demands.specs.Demand1 as Spec
use Rattle.std.specs.Prelude.{Some, None, Result, Ok, Err, ⊤}
use Rattle.tiling.specs.declared.Counts.{Counts}
use Rattle.section_3_geometry.specs.declared.DegreeGrid.{DegreeGrid}
use Rattle.section_3_geometry.specs.declared.LambertGrid.{LambertGrid}

-- All integers of a field are asked by decode and by a picture.
data AsksAll : Question → Type 0 where
  all_values : {k start values presence : ℕ} → AsksAll (decode k start values presence)
  all_greys : {k room : ℕ} → AsksAll (picture k room)

by_decode : {q : Question} {start values presence : ℕ} → Lends q start values presence → AsksAll q
by_decode lends = all_values

by_picture : {q : Question} {room : ℕ} → LendsOctets q room → AsksAll q
by_picture lends_octets = all_greys

-- Where a refusal stands in the order.
abbrev step : Refusal → ℕ
step r = rank (number_of r.why)

-- A field is refused by s, or by a refusal that comes before s.
abbrev CaughtIn : Refusal → Result Description Refusal → Type 0
CaughtIn s a = (r : Refusal) × (a ≡ Err r) × ((r ≡ s) ⊎ (step r < step s))

here : {s : Refusal} → CaughtIn s (Err s)
here {s} = (s, refl, inl refl)

sooner : {s : Refusal} (t : Refusal) → step t < step s → CaughtIn s (Err t)
sooner t before = (t, refl, inr before)

-- Each section in its turn: where it is not taken, that comes before s, and where it is taken, s is caught behind it.
module _ (file : List ℕ) (l : Located) (s : Refusal) where
  past_1 :
      steps_before order 9 < step s →
      ((i : Identification) → identification_at file l.starts.one.0 ≡ Some i → CaughtIn s (gridded file l i (grid_at file l.starts.three.0))) →
      CaughtIn s (described_at file l)
  past_1 before = at_section_1 file l (CaughtIn s) (λ _. sooner _ before)

  module _ (i : Identification) where
    past_3 :
        steps_before order 10 < step s →
        ((g : Grid) → grid_at file l.starts.three.0 ≡ Some g → CaughtIn s (defined file l i g (product_definition_at file l.starts.four.0 i.reference))) →
        CaughtIn s (gridded file l i (grid_at file l.starts.three.0))
    past_3 before = at_section_3 file l (CaughtIn s) i (λ _. sooner _ before)

    module _ (g : Grid) where
      past_4 :
          steps_before order 11 < step s →
          ((m : ProductDefinition) → product_definition_at file l.starts.four.0 i.reference ≡ Some m → CaughtIn s (represented file l i g m (representation_at file l.starts.five.0))) →
          CaughtIn s (defined file l i g (product_definition_at file l.starts.four.0 i.reference))
      past_4 before = at_section_4 file l (CaughtIn s) i g (λ _. sooner _ before)

      module _ (m : ProductDefinition) where
        past_5 :
            steps_before order 12 < step s →
            ((r : Representation) → representation_at file l.starts.five.0 ≡ Some r → CaughtIn s (marked file l i g m r (presence_at file l.starts.six.0 l.bitmap (points_of g) r.n))) →
            CaughtIn s (represented file l i g m (representation_at file l.starts.five.0))
        past_5 before = at_section_5 file l (CaughtIn s) i g m (λ _. sooner _ before)

        module _ (r : Representation) where
          past_6 :
              steps_before order 13 < step s →
              ((p : Presence) → presence_at file l.starts.six.0 l.bitmap (points_of g) r.n ≡ Some p → CaughtIn s (packed file l i g m r p (data_at file l.starts.seven.0 r))) →
              CaughtIn s (marked file l i g m r (presence_at file l.starts.six.0 l.bitmap (points_of g) r.n))
          past_6 before = at_section_6 file l (CaughtIn s) i g m r (λ _. sooner _ before)

-- A section that is not taken is caught, whatever else is wrong with the field.
module _ (file : List ℕ) (l : Located) where
  caught_1 : identification_at file l.starts.one.0 ≡ None → CaughtIn (refusal Why.BadIdentification l.starts.one.0) (described_at file l)
  caught_1 fails = at_section_1 file l (CaughtIn _) (λ _. here) (λ i taken. apart cc)

  caught_3 : grid_at file l.starts.three.0 ≡ None → CaughtIn (refusal Why.BadGrid l.starts.three.0) (described_at file l)
  caught_3 fails =
      past_1 file l _ (omega (arith, in_order))
      (λ i _. at_section_3 file l (CaughtIn _) i (λ _. here)
      (λ g taken. apart cc))

  caught_4 :
      {i : Identification} →
      identification_at file l.starts.one.0 ≡ Some i →
      product_definition_at file l.starts.four.0 i.reference ≡ None →
      CaughtIn (refusal Why.BadProduct l.starts.four.0) (described_at file l)
  caught_4 {i} of_one fails =
      past_1 file l _ (omega (arith, in_order))
      (λ j same-one. past_3 file l _ j (omega (arith, in_order))
      (λ g _. at_section_4 file l (CaughtIn _) j g (λ _. here)
      (λ m taken. let same : i ≡ j = cc in apart cc)))

  caught_5 : representation_at file l.starts.five.0 ≡ None → CaughtIn (refusal Why.BadRepresentation l.starts.five.0) (described_at file l)
  caught_5 fails =
      past_1 file l _ (omega (arith, in_order))
      (λ i _. past_3 file l _ i (omega (arith, in_order))
      (λ g _. past_4 file l _ i g (omega (arith, in_order))
      (λ m _. at_section_5 file l (CaughtIn _) i g m (λ _. here)
      (λ r taken. apart cc))))

  caught_6 :
      {g : Grid} {r : Representation} →
      grid_at file l.starts.three.0 ≡ Some g →
      representation_at file l.starts.five.0 ≡ Some r →
      presence_at file l.starts.six.0 l.bitmap (points_of g) r.n ≡ None →
      CaughtIn (refusal Why.BadBitmap l.starts.six.0) (described_at file l)
  caught_6 {g} {r} of_three of_five fails =
      past_1 file l _ (omega (arith, in_order))
      (λ i _. past_3 file l _ i (omega (arith, in_order))
      (λ h same-three. past_4 file l _ i h (omega (arith, in_order))
      (λ m _. past_5 file l _ i h m (omega (arith, in_order))
      (λ q same-five. at_section_6 file l (CaughtIn _) i h m q (λ _. here)
      (λ p taken. let same : g ≡ h = cc in let alike : r ≡ q = cc in apart cc)))))

  caught_7 :
      {r : Representation} →
      representation_at file l.starts.five.0 ≡ Some r →
      data_at file l.starts.seven.0 r ≡ None →
      CaughtIn (refusal Why.BadPacking l.starts.seven.0) (described_at file l)
  caught_7 {r} of_five fails =
      past_1 file l _ (omega (arith, in_order))
      (λ i _. past_3 file l _ i (omega (arith, in_order))
      (λ g _. past_4 file l _ i g (omega (arith, in_order))
      (λ m _. past_5 file l _ i g m (omega (arith, in_order))
      (λ q same-five. past_6 file l _ i g m q (omega (arith, in_order))
      (λ p _. at_section_7 file l (CaughtIn _) i g m q p (λ _. here)
      (λ x taken. let alike : r ≡ q = cc in apart cc))))))

  abbrev CaughtOr : Refusal → Result Description Refusal → Type 0
  CaughtOr s a = CaughtIn s a ⊎ ((d : Description) × (a ≡ Ok d))

  -- Behind 14, the field is described, or it is refused by what comes before s.
  described_or : (s : Refusal) → steps_before order 14 < step s → CaughtOr s (described_at file l)
  described_or s behind =
      at_section_1 file l (CaughtOr s) (λ _. inl (sooner _ (omega (arith, in_order, behind))))
      (λ i _. at_section_3 file l (CaughtOr s) i (λ _. inl (sooner _ (omega (arith, in_order, behind))))
      (λ g _. at_section_4 file l (CaughtOr s) i g (λ _. inl (sooner _ (omega (arith, in_order, behind))))
      (λ m _. at_section_5 file l (CaughtOr s) i g m (λ _. inl (sooner _ (omega (arith, in_order, behind))))
      (λ r _. at_section_6 file l (CaughtOr s) i g m r (λ _. inl (sooner _ (omega (arith, in_order, behind))))
      (λ p _. at_section_7 file l (CaughtOr s) i g m r p (λ _. inl (sooner _ behind)) (λ x _. inr (_, refl)))))))

-- An answer is no refusal, and a refusal is one alone.
clash_verdict : {A : Type 0} {number place : ℕ} → answered ≡ refused number place → A
clash_verdict e = apart cc

one_verdict : {number place other elsewhere : ℕ} → refused number place ≡ refused other elsewhere → (number ≡ other) × (place ≡ elsewhere)
one_verdict e = (cc, cc)

-- What comes of a point that is asked for, in degrees or on the sheet, whoever asks.
abbrev of_asked : Result ⊤ Refusal → Verdict
of_asked (Ok tt) = answered
of_asked (Err r) = refused_by r

placed_told : (n : ℕ) (o : Result DegreeGrid Refusal) → of_placed (placed_by n o) ≡ of_asked (in_degrees_as o)
placed_told n (Ok g) = refl
placed_told n (Err r) = refl

degrees_told : (o : Result DegreeGrid Refusal) → of_degrees o ≡ of_asked (in_degrees_as o)
degrees_told (Ok g) = refl
degrees_told (Err r) = refl

sheet_told : (n : ℕ) (o : Result LambertGrid Refusal) → of_sheet (sheet_by n o) ≡ of_asked (on_lambert_as o)
sheet_told n (Ok g) = refl
sheet_told n (Err r) = refl

lambert_told : (o : Result LambertGrid Refusal) → of_lambert o ≡ of_asked (on_lambert_as o)
lambert_told (Ok g) = refl
lambert_told (Err r) = refl

-- The two sorts of questions about a point: where it lies, on grids of one template, and what its value is; each for a run of this length.
data AsksPlace : Question → (template n room : ℕ) → Type 0 where
  degrees : {k n : ℕ} → AsksPlace (place k n) 0 n 2
  degrees_into : {k n room : ℕ} → AsksPlace (place_into k n room) 0 n room
  on_paper : {k n : ℕ} → AsksPlace (sheet k n) 30 n 2
  on_paper_into : {k n room : ℕ} → AsksPlace (sheet_into k n room) 30 n room

data AsksIn : Question → (n room : ℕ) → Type 0 where
  value : {k n : ℕ} → AsksIn (point k n) n 1
  value_into : {k n room : ℕ} → AsksIn (point_into k n room) n room

sort_of : {q : Question} {n needed room : ℕ} → AsksPoint q n needed room → ((template : ℕ) × AsksPlace q template n room × (needed ≡ 2)) ⊎ (AsksIn q n room × (needed ≡ 1))
sort_of in_degrees = inl (0, degrees, refl)
sort_of in_degrees_into = inl (0, degrees_into, refl)
sort_of on_sheet = inl (30, on_paper, refl)
sort_of on_sheet_into = inl (30, on_paper_into, refl)
sort_of its_value = inr (value, refl)
sort_of its_value_into = inr (value_into, refl)

place_of_lem : {q : Question} {template : ℕ} → AsksOf q template → (n : ℕ) × (room : ℕ) × AsksPlace q template n room
place_of_lem for_place = (_, _, degrees)
place_of_lem for_place_into = (_, _, degrees_into)
place_of_lem for_sheet = (_, _, on_paper)
place_of_lem for_sheet_into = (_, _, on_paper_into)

value_of : {q : Question} {n : ℕ} → AsksValue q n → (room : ℕ) × AsksIn q n room
value_of a_value = (_, value)
value_of a_value_into = (_, value_into)

placed_asks : {q : Question} {template n room : ℕ} → AsksPlace q template n room → AsksPoint q n 2 room × AsksOf q template
placed_asks degrees = (in_degrees, for_place)
placed_asks degrees_into = (in_degrees_into, for_place_into)
placed_asks on_paper = (on_sheet, for_sheet)
placed_asks on_paper_into = (on_sheet_into, for_sheet_into)

valued_asks : {q : Question} {n room : ℕ} → AsksIn q n room → AsksPoint q n 1 room × AsksValue q n
valued_asks value = (its_value, a_value)
valued_asks value_into = (its_value_into, a_value_into)

-- A question is refused by s, or by a refusal that comes before s.
abbrev Caught : List ℕ → Question → Refusal → Type 0
Caught file q s = (r : Refusal) × (verdict file q ≡ refused_by r) × ((r ≡ s) ⊎ (step r < step s))

-- The same, where s is told by its number and its place.
abbrev CaughtTold : List ℕ → Question → ℕ → ℕ → Type 0
CaughtTold file q m p = (r : Refusal) × (verdict file q ≡ refused_by r) × (((number_of r.why ≡ m) × (r.place.0 ≡ p)) ⊎ (step r < rank m))

told : (file : List ℕ) (q : Question) (s : Refusal) → Caught file q s → CaughtTold file q (number_of s.why) s.place.0
told file q s (r, given, inl same) = (r, given, inl (ap (λ (f : Refusal). number_of f.why) same, ap (λ (f : Refusal). f.place.0) same))
told file q s (r, given, inr before) = (r, given, inr before)

-- A fault of the tiling is at the step of the tiling.
tiling_step : {file : List ℕ} {p : ℕ} {r : Refusal} → Faulty file p r → step r ≡ steps_before order 3
tiling_step (Refusals.Faulty.heading heads) = by heads
  where
    by : {file : List ℕ} {p : ℕ} {why : declaredWhy.Why} → Heads.Heads file p (Err why) → steps_before order (step_of (number_of why)) ≡ steps_before order 3
    by (Heads.few h) = refl
    by (Heads.strange h opens) = refl
    by (Heads.short opens h) = refl
    by (Heads.long opens least h) = refl
    by (Heads.endless holds h) = refl
tiling_step (Refusals.Faulty.section heads before stands) = by stands
  where
    by : {file : List ℕ} {q e n : ℕ} {why : declaredWhy.Why} → Stands.Stands file q e n (Err why) → steps_before order (step_of (number_of why)) ≡ steps_before order 3
    by (Stands.unfinished end after) = refl
    by (Stands.misfit inside fits) = refl
    by (Stands.strange fits after) = refl

module _ (file : List ℕ) where
  pub described_is : {k : ℕ} {l : Located} → FieldAt file k l → Describe.describe file k ≡ described_at file l
  described_is {k} at =
      ap (field_in file k) ((tiles_so file at.messages at.fields).1 at.accepted)
      ∙ rw (lt-ltb k (length at.fields) at.below) (ap (described_at file) at.lies)

  -- A question about field k is refused where describe refuses it.
  asked : {q : Question} {k : ℕ} {r : Refusal} → Names q k → Describe.describe file k ≡ Err r → verdict file q ≡ refused_by r
  asked describes e = rw e
  asked places e = rw e
  asked decodes e = rw e
  asked describes_into e = rw e
  asked places_into e = rw e
  asked sheets e = rw e
  asked sheets_into e = rw e
  asked tells e = rw e
  asked tells_into e = rw e
  asked draws e = rw e

  caught_by : {q : Question} {l : Located} {s : Refusal} → About file q l → CaughtIn s (described_at file l) → Caught file q s
  caught_by about caught = (caught.0, asked about.names (described_is about.lies ∙ caught.1), caught.2)

  file_refused : {r : Refusal} (q : Question) → Refusals.Refused file r → verdict file q ≡ refused_by r
  file_refused {r} check bad = rw ((check_refuses file r).1 bad)
  file_refused {r} (describe k) bad = asked describes (ap (field_in file k) ((refuses_so file r).1 bad))
  file_refused {r} (place k n) bad = asked places (ap (field_in file k) ((refuses_so file r).1 bad))
  file_refused {r} (describe_into k room) bad = asked describes_into (ap (field_in file k) ((refuses_so file r).1 bad))
  file_refused {r} (place_into k n room) bad = asked places_into (ap (field_in file k) ((refuses_so file r).1 bad))
  file_refused {r} (sheet k n) bad = asked sheets (ap (field_in file k) ((refuses_so file r).1 bad))
  file_refused {r} (sheet_into k n room) bad = asked sheets_into (ap (field_in file k) ((refuses_so file r).1 bad))
  file_refused {r} (point k n) bad = asked tells (ap (field_in file k) ((refuses_so file r).1 bad))
  file_refused {r} (point_into k n room) bad = asked tells_into (ap (field_in file k) ((refuses_so file r).1 bad))
  file_refused {r} (picture k room) bad = asked draws (ap (field_in file k) ((refuses_so file r).1 bad))
  file_refused {r} (decode k start values presence) bad = asked decodes (ap (field_in file k) ((refuses_so file r).1 bad))

  no_field : (k : ℕ) {m : ℕ} (fs : List Located) → tiling_of file ≡ Tiling.tiled m fs → length fs ≤ k → Describe.describe file k ≡ refused_at Why.NoSuchField 0
  no_field k fs is few = ap (field_in file k) is ∙ rw (le-ltb k (length fs) few)

  -- What decode and place answer of a field that is described.
  decoded_as :
      {q : Question} {l : Located} {d : Description} {r : Refusal} {start values presence : ℕ} →
      About file q l →
      Lends q start values presence →
      described_at file l ≡ Ok d →
      values_asked file start values presence d ≡ Err r →
      verdict file q ≡ refused_by r
  decoded_as {l = l} {r = r} about (lends {k = k} {start = start} {values = values} {presence = presence}) said e = by about.names about.lies
    where
      by : {j : ℕ} → Names (decode k start values presence) j → FieldAt file j l → verdict file (decode k start values presence) ≡ refused_by r
      by decodes at =
          ap (λ (a : Result Description Refusal). of_decoded (answer_of (outcome_by file (asked_of file (Asks.Values start values presence) a)))) (described_is at ∙ said)
          ∙ ap (λ (a : Result Description Refusal). of_decoded (answer_of (outcome_by file a))) e

  -- What picture answers of a field that is described.
  drawn_as :
      {q : Question} {l : Located} {d : Description} {r : Refusal} {room : ℕ} →
      About file q l →
      LendsOctets q room →
      described_at file l ≡ Ok d →
      picture_asked file room d ≡ Picture.refuses r →
      verdict file q ≡ refused_by r
  drawn_as {l = l} {r = r} about (lends_octets {k} {room}) said e = by about.names about.lies
    where
      by : {j : ℕ} → Names (picture k room) j → FieldAt file j l → verdict file (picture k room) ≡ refused_by r
      by draws at =
          ap (λ (a : Result Description Refusal). of_pictured (Picture.pictured_by (Picture.drawing_by file room a))) (described_is at ∙ said)
          ∙ ap (λ (o : Picture.Drawing). of_pictured (Picture.pictured_by o)) e

  -- A question where a point lies is judged by the kind of the grid, then by the point, and then by the room.
  place_verdict : {q : Question} {j template n room : ℕ} → AsksPlace q template n room → Names q j → verdict file q ≡ of_asked (point_of template n room (Describe.describe file j))
  place_verdict (degrees {k} {n}) names = by names
    where
      by : {j : ℕ} → Names (place k n) j → verdict file (place k n) ≡ of_asked (point_of 0 n 2 (Describe.describe file j))
      by places = placed_told n (on_degrees file k n 2) ∙ ap of_asked (degrees_alike n 2 (Describe.describe file k))
  place_verdict (degrees_into {k} {n} {room}) names = by names
    where
      by : {j : ℕ} → Names (place_into k n room) j → verdict file (place_into k n room) ≡ of_asked (point_of 0 n room (Describe.describe file j))
      by places_into = degrees_told (on_degrees file k n room) ∙ ap of_asked (degrees_alike n room (Describe.describe file k))
  place_verdict (on_paper {k} {n}) names = by names
    where
      by : {j : ℕ} → Names (sheet k n) j → verdict file (sheet k n) ≡ of_asked (point_of 30 n 2 (Describe.describe file j))
      by sheets = sheet_told n (on_lambert file k n 2) ∙ ap of_asked (lambert_alike n 2 (Describe.describe file k))
  place_verdict (on_paper_into {k} {n} {room}) names = by names
    where
      by : {j : ℕ} → Names (sheet_into k n room) j → verdict file (sheet_into k n room) ≡ of_asked (point_of 30 n room (Describe.describe file j))
      by sheets_into = lambert_told (on_lambert file k n room) ∙ ap of_asked (lambert_alike n room (Describe.describe file k))

  -- One about its value is judged by the point, by the room, and then by its integers.
  value_verdict : {q : Question} {j n room : ℕ} → AsksIn q n room → Names q j → verdict file q ≡ of_pointed (Point.point_into file j n room)
  value_verdict (value {k} {n}) names = by names
    where
      by : {j : ℕ} → Names (point k n) j → verdict file (point k n) ≡ of_pointed (Point.point_into file j n 1)
      by tells = refl
  value_verdict (value_into {k} {n} {room}) names = by names
    where
      by : {j : ℕ} → Names (point_into k n room) j → verdict file (point_into k n room) ≡ of_pointed (Point.point_into file j n room)
      by tells_into = refl

  -- What is answered of a field that is described.
  place_refused :
      {q : Question} {l : Located} {d : Description} {r : Refusal} {template n room : ℕ} →
      About file q l →
      AsksPlace q template n room →
      described_at file l ≡ Ok d →
      kind_asked template n room d.grid ≡ Err r →
      verdict file q ≡ refused_by r
  place_refused {template = template} {n = n} {room = room} about lent said e =
      place_verdict lent about.names ∙ ap of_asked (ap (point_of template n room) (described_is about.lies ∙ said) ∙ e)

  value_refused :
      {q : Question} {l : Located} {d : Description} {r : Refusal} {n room : ℕ} →
      About file q l →
      AsksIn q n room →
      described_at file l ≡ Ok d →
      point_asked_of file n room d ≡ Err r →
      verdict file q ≡ refused_by r
  value_refused {n = n} {room = room} about lent said e =
      value_verdict lent about.names ∙ ap of_pointed (ap (pointed_by file n room) (described_is about.lies ∙ said) ∙ e)

  -- Where the point or the room is refused, so is the question, unless the grid is of the other kind.
  point_refused :
      {q : Question} {l : Located} {d : Description} {r : Refusal} {n needed room : ℕ} →
      About file q l →
      AsksPoint q n needed room →
      described_at file l ≡ Ok d →
      point_asked n needed room d.grid ≡ Err r →
      (verdict file q ≡ refused_by r) ⊎ (verdict file q ≡ refused_by (refusal Why.OtherGrid 0))
  point_refused {q} {l} {d} {r} {n} {needed} {room} about lent said e = by (sort_of lent)
    where
      by : ((template : ℕ) × AsksPlace q template n room × (needed ≡ 2)) ⊎ (AsksIn q n room × (needed ≡ 1)) → (verdict file q ≡ refused_by r) ⊎ (verdict file q ≡ refused_by (refusal Why.OtherGrid 0))
      by (inl (template, lies, two)) =
          split (eqb (template_of d.grid) template)
          (λ kind. inl (place_refused {r = r} about lies said (rw kind (rw two at e))))
          (λ another. inr (place_refused {r = refusal Why.OtherGrid 0} about lies said (rw another)))
      by (inr (told, one)) = inl (value_refused {r = r} about told said (ap (point_if file d n) (rw one at e)))

  -- 20: the grid is of the other kind.
  other :
      {q : Question} {l : Located} {g : Grid} {template : ℕ} →
      About file q l →
      AsksOf q template →
      grid_at file l.starts.three.0 ≡ Some g →
      (template_of g ≡ template → ⊥) →
      Caught file q (refusal Why.OtherGrid 0)
  other {q} {l} {g} {template} about lent of_three differs = by (described_or file l (refusal Why.OtherGrid 0) (omega (arith, in_order)))
    where
      by : CaughtOr file l (refusal Why.OtherGrid 0) (described_at file l) → Caught file q (refusal Why.OtherGrid 0)
      by (inl caught) = caught_by about caught
      by (inr (d, said)) =
          let of_grid = (described_judged file l d said).of_three in
          let same : g ≡ d.grid = cc in
          (refusal Why.OtherGrid 0, place_refused {r = refusal Why.OtherGrid 0} about (place_of_lem lent).2 said (rw (ne_eqb (template_of d.grid) template (rw same at differs))), inl refl)

  -- A refusal of the point or of the room is caught, or 20 is, which comes before both.
  or_other : (q : Question) {t s : Refusal} → (t ≡ s) ⊎ (step t < step s) → steps_before order 20 < step s → (verdict file q ≡ refused_by t) ⊎ (verdict file q ≡ refused_by (refusal Why.OtherGrid 0)) → Caught file q s
  or_other q {t = t} which before (inl given) = (t, given, which)
  or_other q which before (inr given) = (refusal Why.OtherGrid 0, given, inr before)

  -- 17: there is no such point. 20 comes before it.
  beyond :
      {q : Question} {l : Located} {g : Grid} {n needed room : ℕ} →
      About file q l →
      AsksPoint q n needed room →
      grid_at file l.starts.three.0 ≡ Some g →
      points_of g ≤ n →
      Caught file q (refusal Why.NoSuchPoint 0)
  beyond {q} {l} {g} {n} about lent of_three few = by (described_or file l (refusal Why.NoSuchPoint 0) (omega (arith, in_order)))
    where
      by : CaughtOr file l (refusal Why.NoSuchPoint 0) (described_at file l) → Caught file q (refusal Why.NoSuchPoint 0)
      by (inl caught) = caught_by about caught
      by (inr (d, said)) =
          let of_grid = (described_judged file l d said).of_three in
          let same : g ≡ d.grid = cc in
          or_other q (inl refl) (omega (arith, in_order)) (point_refused {r = refusal Why.NoSuchPoint 0} about lent said (rw (le-leb (points_of d.grid) n (rw same at few))))

  -- 15: the run is too short for what tells of the point. 20 and 17 come before it.
  short_point :
      {q : Question} {l : Located} {n needed room : ℕ} →
      About file q l →
      AsksPoint q n needed room →
      room < needed →
      Caught file q (refusal Why.NoRoom 0)
  short_point {q} {l} {n} {needed} {room} about lent less = by (described_or file l (refusal Why.NoRoom 0) (omega (arith, in_order)))
    where
      by : CaughtOr file l (refusal Why.NoRoom 0) (described_at file l) → Caught file q (refusal Why.NoRoom 0)
      by (inl caught) = caught_by about caught
      by (inr (d, said)) =
          split (leb (points_of d.grid) n)
          (λ behind. or_other q {t = refusal Why.NoSuchPoint 0} (inr (omega (arith, in_order))) (omega (arith, in_order)) (point_refused {r = refusal Why.NoSuchPoint 0} about lent said (rw behind)))
          (λ there. or_other q (inl refl) (omega (arith, in_order)) (point_refused {r = refusal Why.NoRoom 0} about lent said (rw (there, lt-ltb room needed less))))

  -- 15: the run is too short for the numbers of a description.
  short :
      {q : Question} {l : Located} {g : Grid} {needed room : ℕ} →
      About file q l →
      grid_at file l.starts.three.0 ≡ Some g →
      LendsNumbers q g needed room →
      room < needed →
      Caught file q (refusal Why.NoRoom 0)
  short {q} {l} {g} about of_three lent few = by (described_or file l (refusal Why.NoRoom 0) (omega (arith, in_order)))
    where
      told_short : {k room : ℕ} {d : Description} → room < description_length d.grid → {j : ℕ} → Names (describe_into k room) j → FieldAt file j l → described_at file l ≡ Ok d →
          verdict file (describe_into k room) ≡ refused 15 0
      told_short {room = room} {d = d} less describes_into at said =
          ap (λ (a : Result Description Refusal). of_described (asked_of file (Asks.Numbers room) a)) (described_is at ∙ said) ∙ rw (lt-ltb room (description_length d.grid) less)

      lacking : {q : Question} {h : Grid} {needed room : ℕ} (d : Description) → About file q l → h ≡ d.grid → LendsNumbers q h needed room → room < needed → described_at file l ≡ Ok d → Caught file q (refusal Why.NoRoom 0)
      lacking d about same (for_degrees {room = room}) less said = (refusal Why.NoRoom 0, told_short (subst (λ (h : Grid). room < description_length h) same less) about.names about.lies said, inl refl)
      lacking d about same (for_lambert {room = room}) less said = (refusal Why.NoRoom 0, told_short (subst (λ (h : Grid). room < description_length h) same less) about.names about.lies said, inl refl)

      by : CaughtOr file l (refusal Why.NoRoom 0) (described_at file l) → Caught file q (refusal Why.NoRoom 0)
      by (inl caught) = caught_by about caught
      by (inr (d, said)) =
          let of_grid = (described_judged file l d said).of_three in
          let same : g ≡ d.grid = cc in
          lacking d about same lent few said

  -- 15: there is no room.
  full :
      {q : Question} {l : Located} {g : Grid} (start values presence : ℕ) →
      About file q l →
      Lends q start values presence →
      grid_at file l.starts.three.0 ≡ Some g →
      ((start + points_of g ≤ values) × (start + points_of g ≤ presence) → ⊥) →
      Caught file q (refusal Why.NoRoom 0)
  full {q} {l} {g} start values presence about lent of_three fits = by (described_or file l (refusal Why.NoRoom 0) (omega (arith, in_order)))
    where
      by : CaughtOr file l (refusal Why.NoRoom 0) (described_at file l) → Caught file q (refusal Why.NoRoom 0)
      by (inl caught) = caught_by about caught
      by (inr (d, said)) =
          let of_grid = (described_judged file l d said).of_three in
          let same : g ≡ d.grid = cc in
          split (has_room start (points_of d.grid) values presence)
          (λ room. absurd (fits (rw same (room_fits start (points_of d.grid) values presence room))))
          (λ none. (refusal Why.NoRoom 0, decoded_as {r = refusal Why.NoRoom 0} about lent said (rw none), inl refl))

  -- 15: the run is too short for the picture.
  cramped_picture :
      {q : Question} {l : Located} {g : Grid} {room : ℕ} →
      About file q l →
      LendsOctets q room →
      grid_at file l.starts.three.0 ≡ Some g →
      room < picture_length (frame_of g) →
      Caught file q (refusal Why.NoRoom 0)
  cramped_picture {q} {l} {g} {room} about lent of_three less = by (described_or file l (refusal Why.NoRoom 0) (omega (arith, in_order)))
    where
      by : CaughtOr file l (refusal Why.NoRoom 0) (described_at file l) → Caught file q (refusal Why.NoRoom 0)
      by (inl caught) = caught_by about caught
      by (inr (d, said)) =
          let of_grid = (described_judged file l d said).of_three in
          let same : g ≡ d.grid = cc in
          (refusal Why.NoRoom 0, drawn_as {r = refusal Why.NoRoom 0} about lent said (rw (lt-ltb room (picture_length (frame_of d.grid)) (rw same at less))), inl refl)

  -- 16: an integer is out of its range. 15 comes before it.
  out :
      {q : Question} {l : Located} {r : Representation} (m : ℕ) →
      About file q l →
      AsksAll q →
      representation_at file l.starts.five.0 ≡ Some r →
      m < r.n →
      is_in_range (integer_at file l.starts.seven.0 r m) ≡ false →
      Caught file q (refusal Why.ValueOutOfRange l.starts.seven.0)
  out {q} {l} {r} m about asks of_five among outside = by (described_or file l (refusal Why.ValueOutOfRange l.starts.seven.0) (omega (arith, in_order)))
    where
      -- Behind 15, where a field is described whose integers are not all in their range.
      refused_all : {q : Question} (d : Description) → About file q l → AsksAll q → described_at file l ≡ Ok d → is_decodable file d ≡ false → l.starts.seven.0 ≡ d.starts.seven.0 →
          Caught file q (refusal Why.ValueOutOfRange l.starts.seven.0)
      refused_all d about (all_values {k} {start} {values} {presence}) said fails seven =
          split (has_room start (points_of d.grid) values presence)
          (λ room. (refusal Why.ValueOutOfRange d.starts.seven.0, decoded_as {r = refusal Why.ValueOutOfRange d.starts.seven.0} about (lends {k = k} {start = start} {values = values} {presence = presence}) said (rw (room, fails)), inl (ap (refusal Why.ValueOutOfRange) (sym seven))))
          (λ none. (refusal Why.NoRoom 0, decoded_as {r = refusal Why.NoRoom 0} about (lends {k = k} {start = start} {values = values} {presence = presence}) said (rw none), inr (omega (arith, in_order))))
      refused_all d about (all_greys {k} {room}) said fails seven =
          split (ltb room (picture_length (frame_of d.grid)))
          (λ none. (refusal Why.NoRoom 0, drawn_as {r = refusal Why.NoRoom 0} about (lends_octets {k = k} {room = room}) said (rw none), inr (omega (arith, in_order))))
          (λ enough. (refusal Why.ValueOutOfRange d.starts.seven.0, drawn_as {r = refusal Why.ValueOutOfRange d.starts.seven.0} about (lends_octets {k = k} {room = room}) said (rw (enough, fails)), inl (ap (refusal Why.ValueOutOfRange) (sym seven))))

      by : CaughtOr file l (refusal Why.ValueOutOfRange l.starts.seven.0) (described_at file l) → Caught file q (refusal Why.ValueOutOfRange l.starts.seven.0)
      by (inl caught) = caught_by about caught
      by (inr (d, said)) =
          let judged = described_judged file l d said in
          let of_representation = judged.of_five in
          let same : r ≡ d.representation = cc in
          let seven : l.starts.seven.0 ≡ d.starts.seven.0 = ap (λ (s : Starts). s.seven.0) (sym judged.of_starts) in
          let beyond : is_in_range (integer_of file d m) ≡ false = rw (← same, ← seven) outside in
          refused_all d about asks said (in_range_out (integer_of file d) d.representation.n {j = m} (rw (← same) among) beyond) seven

  -- 16: an integer up to the point's own is out of its range. 17 and 15 come before it.
  out_up_to :
      {q : Question} {l : Located} {g : Grid} {r : Representation} {p : Presence} {n : ℕ} (j : ℕ) →
      About file q l →
      AsksValue q n →
      grid_at file l.starts.three.0 ≡ Some g →
      representation_at file l.starts.five.0 ≡ Some r →
      presence_at file l.starts.six.0 l.bitmap (points_of g) r.n ≡ Some p →
      present_at file p (points_of g) n ≡ 1 →
      j ≤ present_before file p (points_of g) n →
      is_in_range (integer_at file l.starts.seven.0 r j) ≡ false →
      Caught file q (refusal Why.ValueOutOfRange l.starts.seven.0)
  out_up_to {q} {l} {g} {r} {p} {n} j about asks of_three of_five of_six present among outside = by (described_or file l (refusal Why.ValueOutOfRange l.starts.seven.0) (omega (arith, in_order)))
    where
      by : CaughtOr file l (refusal Why.ValueOutOfRange l.starts.seven.0) (described_at file l) → Caught file q (refusal Why.ValueOutOfRange l.starts.seven.0)
      by (inl caught) = caught_by about caught
      by (inr (d, said)) =
          let judged = described_judged file l d said in
          let of_grid = judged.of_three in
          let of_representation = judged.of_five in
          let grids : g ≡ d.grid = cc in
          let alike : r ≡ d.representation = cc in
          let of-presence : presence_at file l.starts.six.0 l.bitmap (points_of g) r.n ≡ Some d.presence = rw (grids, alike) judged.of_six in
          let marks : p ≡ d.presence = cc in
          let seven : l.starts.seven.0 ≡ d.starts.seven.0 = ap (λ (s : Starts). s.seven.0) (sym judged.of_starts) in
          let here : present_of file d n ≡ 1 = rw (← grids, ← marks) present in
          let upto : j ≤ rank_of file d n = rw (← grids, ← marks) among in
          let beyond : is_in_range (integer_of file d j) ≡ false = rw (← alike, ← seven) outside in
          let fails = in_range_out (integer_of file d) (suc (rank_of file d n)) {j = j} (omega arith) beyond in
          let told = (value_of asks).1 in
          split (leb (points_of d.grid) n)
          (λ behind. (refusal Why.NoSuchPoint 0, value_refused {r = refusal Why.NoSuchPoint 0} about told said (rw behind), inr (omega (arith, in_order))))
          (λ there.
          split (ltb (value_of asks).0 1)
          (λ few. (refusal Why.NoRoom 0, value_refused {r = refusal Why.NoRoom 0} about told said (rw (there, few)), inr (omega (arith, in_order))))
          (λ enough.
          (refusal Why.ValueOutOfRange d.starts.seven.0, value_refused {r = refusal Why.ValueOutOfRange d.starts.seven.0} about told said (rw (there, enough) (told_out file d n here fails)), inl (ap (refusal Why.ValueOutOfRange) (sym seven)))))

  -- 3 to 7: a fault of the tiling comes behind 1 alone.
  faulted : (q : Question) {why : declaredWhy.Why} {place : ℕ} → Fault file why place → Caught file q (refusal why place)
  faulted q f =
      split (ltb largest (length file))
      (λ long. (refusal Why.TooLong 0, file_refused q (Refusals.Refused.too_long (ltb-true _ _ long)), inr (omega (arith, in_order, tiling_step f.faulty))))
      (λ short. (_, file_refused q (Refusals.Refused.message (omega (arith, f.inside)) (ltb-false _ _ short) f.before f.inside f.faulty), inl refl))

  -- Every refusal that applies is caught.
  caught : {q : Question} {m p : ℕ} → Applies file q m p → CaughtTold file q m p
  caught {q} (Spec.too_long h) = told file q (refusal Why.TooLong 0) (refusal Why.TooLong 0, file_refused q (Refusals.Refused.too_long h), inl refl)
  caught {q} (Spec.empty h) = told file q (refusal Why.Empty 0) (refusal Why.Empty 0, file_refused q (Refusals.Refused.empty h), inl refl)
  caught {q} (Spec.cut {p} f) = told file q (refusal Why.Cut p) (faulted q f)
  caught {q} (Spec.not_grib_2 {p} f) = told file q (refusal Why.NotGrib2 p) (faulted q f)
  caught {q} (Spec.bad_length {p} f) = told file q (refusal Why.BadLength p) (faulted q f)
  caught {q} (Spec.out_of_place {p} f) = told file q (refusal Why.OutOfPlace p) (faulted q f)
  caught {q} (Spec.no_end {p} f) = told file q (refusal Why.NoEnd p) (faulted q f)
  caught {q} (Spec.no_such_field {k} {m} {fs} names accepted few) =
      told file q (refusal Why.NoSuchField 0) (refusal Why.NoSuchField 0, asked names (no_field k fs ((tiles_so file m fs).1 accepted) few), inl refl)
  caught {q} (Spec.section_1 {l} about fails) = told file q (refusal Why.BadIdentification l.starts.one.0) (caught_by about (caught_1 file l fails))
  caught {q} (Spec.section_3 {l} about fails) = told file q (refusal Why.BadGrid l.starts.three.0) (caught_by about (caught_3 file l fails))
  caught {q} (Spec.section_4 {l} about of_one fails) = told file q (refusal Why.BadProduct l.starts.four.0) (caught_by about (caught_4 file l of_one fails))
  caught {q} (Spec.section_5 {l} about fails) = told file q (refusal Why.BadRepresentation l.starts.five.0) (caught_by about (caught_5 file l fails))
  caught {q} (Spec.section_6 {l} about of_three of_five fails) = told file q (refusal Why.BadBitmap l.starts.six.0) (caught_by about (caught_6 file l of_three of_five fails))
  caught {q} (Spec.section_7 {l} about of_five fails) = told file q (refusal Why.BadPacking l.starts.seven.0) (caught_by about (caught_7 file l of_five fails))
  caught {q} (Spec.no_room {start = start} {values = values} {presence = presence} about lent of_three fits) = told file q (refusal Why.NoRoom 0) (full start values presence about lent of_three fits)
  caught {q} (Spec.no_room_for_numbers about of_three lent few) = told file q (refusal Why.NoRoom 0) (short about of_three lent few)
  caught {q} (Spec.no_room_for_point about lent few) = told file q (refusal Why.NoRoom 0) (short_point about lent few)
  caught {q} (Spec.no_room_for_picture about lent of_three less) = told file q (refusal Why.NoRoom 0) (cramped_picture about lent of_three less)
  caught {q} (Spec.out_of_range {l} {m = m} about lent of_five among outside) =
      told file q (refusal Why.ValueOutOfRange l.starts.seven.0) (out m about (by_decode lent) of_five among outside)
  caught {q} (Spec.out_of_range_for_picture {l} {m = m} about lent of_five among outside) =
      told file q (refusal Why.ValueOutOfRange l.starts.seven.0) (out m about (by_picture lent) of_five among outside)
  caught {q} (Spec.out_of_range_up_to {l} {j = j} about asks of_three of_five of_six present among outside) =
      told file q (refusal Why.ValueOutOfRange l.starts.seven.0) (out_up_to j about asks of_three of_five of_six present among outside)
  caught {q} (Spec.no_such_point about lent of_three few) = told file q (refusal Why.NoSuchPoint 0) (beyond about lent of_three few)
  caught {q} (Spec.other_grid about lent of_three differs) = told file q (refusal Why.OtherGrid 0) (other about lent of_three differs)

  -- A question is refused only by a refusal that applies: of the file, and of the field that is asked about.
  abbrev AppliesBy : Question → Refusal → Type 0
  AppliesBy q r = Applies file q (number_of r.why) r.place.0

  heading_applies : {q : Question} {p : ℕ} {why : declaredWhy.Why} → Heads.Heads file p (Err why) → Fault file why p → AppliesBy q (refusal why p)
  heading_applies (Heads.few h) f = Spec.cut f
  heading_applies (Heads.strange h opens) f = Spec.not_grib_2 f
  heading_applies (Heads.short opens h) f = Spec.bad_length f
  heading_applies (Heads.long opens least h) f = Spec.cut f
  heading_applies (Heads.endless holds h) f = Spec.no_end f

  section_applies : {q : Question} {p e n : ℕ} {why : declaredWhy.Why} → Stands.Stands file p e n (Err why) → Fault file why p → AppliesBy q (refusal why p)
  section_applies (Stands.unfinished end after) f = Spec.out_of_place f
  section_applies (Stands.misfit inside fits) f = Spec.bad_length f
  section_applies (Stands.strange fits after) f = Spec.out_of_place f

  fault_applies : {q : Question} {p : ℕ} {r : Refusal} → Before file p → p < length file → Faulty file p r → AppliesBy q r
  fault_applies before inside (Refusals.Faulty.heading heads) = heading_applies heads (record { p = _; before = before; inside = inside; faulty = Refusals.Faulty.heading heads })
  fault_applies before inside (Refusals.Faulty.section heads passed stands) =
      section_applies stands (record { p = _; before = before; inside = inside; faulty = Refusals.Faulty.section heads passed stands })

  file_applies : {q : Question} {r : Refusal} → Refusals.Refused file r → AppliesBy q r
  file_applies (Refusals.Refused.too_long h) = Spec.too_long h
  file_applies (Refusals.Refused.empty h) = Spec.empty h
  file_applies (Refusals.Refused.message some few before inside faulty) = fault_applies before inside faulty

  -- Where a field is described, it lies somewhere, and its sections are taken.
  pub described_at_lem : (k : ℕ) {d : Description} → Describe.describe file k ≡ Ok d → (l : Located) × FieldAt file k l × Judged file l d
  described_at_lem k said =
      let known = described file k said in
      let at = known.1 in
      (known.0, record { messages = at.messages; fields = at.fields; accepted = (tiles_so file at.messages at.fields).0 at.tiles; below = at.below; lies = at.lies }, known.2)

  abbrev Explained : Question → Result Description Refusal → Type 0
  Explained q a = (r : Refusal) → a ≡ Err r → AppliesBy q r

  explain : {q : Question} {t : Refusal} → AppliesBy q t → Explained q (Err t)
  explain {q} {t} applies r same = let alike : t ≡ r = cc in subst (AppliesBy q) alike applies

  module _ {q : Question} {k : ℕ} (names : Names q k) where
    explained : {l : Located} → About file q l → Explained q (described_at file l)
    explained {l} about =
        at_section_1 file l (Explained q) (λ e. explain (Spec.section_1 about e))
        (λ i of_one. at_section_3 file l (Explained q) i (λ e. explain (Spec.section_3 about e))
        (λ g of_three. at_section_4 file l (Explained q) i g (λ e. explain (Spec.section_4 about of_one e))
        (λ m _. at_section_5 file l (Explained q) i g m (λ e. explain (Spec.section_5 about e))
        (λ r of_five. at_section_6 file l (Explained q) i g m r (λ e. explain (Spec.section_6 about of_three of_five e))
        (λ p _. at_section_7 file l (Explained q) i g m r p (λ e. explain (Spec.section_7 about of_five e))
        (λ _ _ r same. apart cc))))))

    described_applies : Explained q (Describe.describe file k)
    described_applies = by (tiling_of file) refl
      where
        by : (o : InFile) → tiling_of file ≡ o → Explained q (field_in file k o)
        by (Tiling.tiled m fs) is =
            let accepted = (tiles_so file m fs).0 is in
            split (ltb k (length fs))
            (λ i. rw i (explained (record { k = k; names = names; lies = record { messages = m; fields = fs; accepted = accepted; below = ltb-true k (length fs) i; lies = refl } })))
            (λ i. rw i (explain (Spec.no_such_field names accepted (ltb-false k (length fs) i))))
        by (Tiling.refused f) is = explain (file_applies ((refuses_so file f).0 is))

    -- The same, where the field is described and what else is asked is refused.
    judged_applies : (wanted : Asks) → ((d : Description) → Describe.describe file k ≡ Ok d → Explained q (asked_of file wanted (Ok d))) → Explained q (judge file k wanted)
    judged_applies wanted behind = by (Describe.describe file k) refl
      where
        by : (a : Result Description Refusal) → Describe.describe file k ≡ a → Explained q (asked_of file wanted a)
        by (Ok d) said = behind d said
        by (Err f) said = λ r same. described_applies r (said ∙ same)

  numbers_applies : (k room : ℕ) (d : Description) → Describe.describe file k ≡ Ok d → Explained (describe_into k room) (numbers_asked room d)
  numbers_applies k room d said =
      split (ltb room (description_length d.grid))
      (λ few. rw few (explain (by d.grid (described_at_lem k said).2.of_three (ltb-true room (description_length d.grid) few))))
      (λ enough. rw enough (λ r same. apart cc))
    where
      about : About file (describe_into k room) (described_at_lem k said).0
      about = record { k = k; names = describes_into; lies = (described_at_lem k said).1 }

      by : (g : Grid) → grid_at file (described_at_lem k said).0.starts.three.0 ≡ Some g → room < description_length g → AppliesBy (describe_into k room) (refusal Why.NoRoom 0)
      by (Grid.Degrees g) of_three few = Spec.no_room_for_numbers about of_three for_degrees few
      by (Grid.Lambert g) of_three few = Spec.no_room_for_numbers about of_three for_lambert few

  -- What is refused of a point applies: of the field, or of its kind, its number and its room.
  abbrev ExplainedPoint : Question → Result ⊤ Refusal → Type 0
  ExplainedPoint q a = (r : Refusal) → a ≡ Err r → AppliesBy q r

  explain_point : {q : Question} {t : Refusal} → AppliesBy q t → ExplainedPoint q (Err t)
  explain_point {q} {t} applies r same = let alike : t ≡ r = cc in subst (AppliesBy q) alike applies

  kind_applies : {q : Question} {k template n room : ℕ} → Names q k → AsksPlace q template n room → (d : Description) → Describe.describe file k ≡ Ok d → ExplainedPoint q (kind_asked template n room d.grid)
  kind_applies {q} {k} {template} {n} {room} names lent d said =
      let at = described_at_lem k said in
      let about : About file q at.0 = record { k = k; names = names; lies = at.1 } in
      split (eqb (template_of d.grid) template)
      (λ kind.
      split (leb (points_of d.grid) n)
      (λ behind. rw (kind, behind) (explain_point (Spec.no_such_point about (placed_asks lent).0 at.2.of_three (leb-true (points_of d.grid) n behind))))
      (λ there.
      split (ltb room 2)
      (λ few. rw (kind, there, few) (explain_point (Spec.no_room_for_point about (placed_asks lent).0 (ltb-true room 2 few))))
      (λ enough. rw (kind, there, enough) (λ r same. apart cc))))
      (λ another. rw another (explain_point (Spec.other_grid about (placed_asks lent).1 at.2.of_three (λ same. let is = eq-eqb (template_of d.grid) template same in apart cc))))

  point_applies : {q : Question} {k template n room : ℕ} → Names q k → AsksPlace q template n room → ExplainedPoint q (point_of template n room (Describe.describe file k))
  point_applies {q} {k} {template} {n} {room} names lent = by (Describe.describe file k) refl
    where
      by : (a : Result Description Refusal) → Describe.describe file k ≡ a → ExplainedPoint q (point_of template n room a)
      by (Ok d) said = kind_applies names lent d said
      by (Err f) said = λ r same. let alike : f ≡ r = cc in described_applies names r (subst (λ (x : Refusal). Describe.describe file k ≡ Err x) alike said)

  stretch_applies : (k start values presence : ℕ) (d : Description) → Describe.describe file k ≡ Ok d → Explained (decode k start values presence) (values_asked file start values presence d)
  stretch_applies k start values presence d said =
      let at = described_at_lem k said in
      split (has_room start (points_of d.grid) values presence)
      (λ room.
      split (is_decodable file d)
      (λ all. rw (room, all) (λ r same. apart cc))
      (λ fails.
      let outside = out_of_range (integer_of file d) d.representation.n fails in
      let starts : d.starts.seven.0 ≡ at.0.starts.seven.0 = ap (λ (s : Starts). s.seven.0) at.2.of_starts in
      rw (room, fails)
      (explain
      (rw starts (Spec.out_of_range (record { k = k; names = decodes; lies = at.1 }) lends at.2.of_five outside.1 (rw (sym starts) outside.2))))))
      (λ none.
      rw none
      (explain (Spec.no_room (record { k = k; names = decodes; lies = at.1 }) lends at.2.of_three (cramped none))))
    where
      cramped : has_room start (points_of d.grid) values presence ≡ false → (start + points_of d.grid ≤ values) × (start + points_of d.grid ≤ presence) → ⊥
      cramped none fits =
          let one = le-leb (start + points_of d.grid) values fits.0 in
          let other = le-leb (start + points_of d.grid) presence fits.1 in
          let holds : has_room start (points_of d.grid) values presence ≡ true = rw (one, other) in
          apart cc

  -- A refusal that is told by its number and its place.
  told_applies : {q : Question} (f : Refusal) {m p : ℕ} → refused_by f ≡ refused m p → AppliesBy q f → Applies file q m p
  told_applies {q} f {m} e applies = let same = one_verdict e in subst (Applies file q m) same.1 (subst (λ (n : ℕ). Applies file q n f.place.0) same.0 applies)

  told_point : {q : Question} {k template n room m p : ℕ} → Names q k → AsksPlace q template n room → verdict file q ≡ refused m p → Applies file q m p
  told_point {q} {k} {template} {n} {room} {m} {p} names lent e = by (point_of template n room (Describe.describe file k)) refl (sym (place_verdict lent names) ∙ e)
    where
      by : (a : Result ⊤ Refusal) → point_of template n room (Describe.describe file k) ≡ a → of_asked a ≡ refused m p → Applies file q m p
      by (Ok tt) said e = clash_verdict e
      by (Err f) said e = told_applies f e (point_applies names lent f said)

  -- What is refused of a point's value applies: of the field, of the point, of the room, or of an integer up to its own.
  pointed_applies : {q : Question} {k n room m p : ℕ} → Names q k → AsksIn q n room → (d : Description) → Describe.describe file k ≡ Ok d → of_pointed (point_asked_of file n room d) ≡ refused m p → Applies file q m p
  pointed_applies {q} {k} {n} {room} names lent d said e =
      let at = described_at_lem k said in
      let about : About file q at.0 = record { k = k; names = names; lies = at.1 } in
      let asks = valued_asks lent in
      let starts : d.starts.seven.0 ≡ at.0.starts.seven.0 = ap (λ (s : Starts). s.seven.0) at.2.of_starts in
      split (leb (points_of d.grid) n)
      (λ behind. told_applies (refusal Why.NoSuchPoint 0) (rw behind at e) (Spec.no_such_point about asks.0 at.2.of_three (leb-true (points_of d.grid) n behind)))
      (λ there.
      split (ltb room 1)
      (λ few. told_applies (refusal Why.NoRoom 0) (rw (there, few) at e) (Spec.no_room_for_point about asks.0 (ltb-true room 1 few)))
      (λ enough.
      split (eqb (present_of file d n) 1)
      (λ present.
      split (are_in_range (integer_of file d) (suc (rank_of file d n)))
      (λ inside. clash_verdict (rw (there, enough, present, inside) at e))
      (λ fails.
      let outside = out_of_range (integer_of file d) (suc (rank_of file d n)) fails in
      told_applies (refusal Why.ValueOutOfRange d.starts.seven.0) (rw (there, enough, present, fails) at e)
      (rw starts (Spec.out_of_range_up_to {j = outside.0} about asks.1 at.2.of_three at.2.of_five at.2.of_six (eqb-true (present_of file d n) 1 present) (omega (arith, outside.1)) (rw (sym starts) outside.2)))))
      (λ missing. clash_verdict (rw (there, enough, missing) at e))))

  told_value_of : {q : Question} {k n room m p : ℕ} → Names q k → AsksIn q n room → verdict file q ≡ refused m p → Applies file q m p
  told_value_of {q} {k} {n} {room} {m} {p} names lent e = by (Describe.describe file k) refl (sym (value_verdict lent names) ∙ e)
    where
      by : (a : Result Description Refusal) → Describe.describe file k ≡ a → of_pointed (pointed_by file n room a) ≡ refused m p → Applies file q m p
      by (Ok d) said e = pointed_applies names lent d said e
      by (Err f) said e = told_applies f e (described_applies names f said)

  -- What is refused of a picture applies: of the field, of the room, or of one of its integers.
  drawn_applies : {m p : ℕ} (k room : ℕ) (d : Description) → Describe.describe file k ≡ Ok d → of_pictured (Picture.pictured_by (picture_asked file room d)) ≡ refused m p → Applies file (picture k room) m p
  drawn_applies k room d said e =
      let at = described_at_lem k said in
      let about : About file (picture k room) at.0 = record { k = k; names = draws; lies = at.1 } in
      let starts : d.starts.seven.0 ≡ at.0.starts.seven.0 = ap (λ (s : Starts). s.seven.0) at.2.of_starts in
      split (ltb room (picture_length (frame_of d.grid)))
      (λ none. told_applies (refusal Why.NoRoom 0) (rw none at e) (Spec.no_room_for_picture about lends_octets at.2.of_three (ltb-true room (picture_length (frame_of d.grid)) none)))
      (λ enough.
      split (is_decodable file d)
      (λ all. clash_verdict (rw (enough, all) at e))
      (λ fails.
      let outside = out_of_range (integer_of file d) d.representation.n fails in
      told_applies (refusal Why.ValueOutOfRange d.starts.seven.0) (rw (enough, fails) at e)
      (rw starts (Spec.out_of_range_for_picture about lends_octets at.2.of_five outside.1 (rw (sym starts) outside.2)))))

  applies_of : {m p : ℕ} (q : Question) → verdict file q ≡ refused m p → Applies file q m p
  applies_of {m} {p} check e = by (Tiling.check file) refl e
    where
      by : (a : Result Counts Refusal) → Tiling.check file ≡ a → of_checked a ≡ refused m p → Applies file check m p
      by (Ok both) said e = clash_verdict e
      by (Err f) said e = told_applies f e (file_applies ((check_refuses file f).0 said))
  applies_of {m} {p} (describe k) e = by (Describe.describe file k) refl e
    where
      by : (a : Result Description Refusal) → Describe.describe file k ≡ a → of_described a ≡ refused m p → Applies file (describe k) m p
      by (Ok d) said e = clash_verdict e
      by (Err f) said e = told_applies f e (described_applies describes f said)
  applies_of (place k n) e = told_point places degrees e
  applies_of (sheet k n) e = told_point sheets on_paper e
  applies_of {m} {p} (decode k start values presence) e = by (judge file k (Asks.Values start values presence)) refl e
    where
      by : (a : Result Description Refusal) → judge file k (Asks.Values start values presence) ≡ a → of_decoded (answer_of (outcome_by file a)) ≡ refused m p → Applies file (decode k start values presence) m p
      by (Ok d) said e = clash_verdict e
      by (Err f) said e = told_applies f e (judged_applies decodes (Asks.Values start values presence) (stretch_applies k start values presence) f said)
  applies_of {m} {p} (describe_into k room) e = by (judge file k (Asks.Numbers room)) refl e
    where
      by : (a : Result Description Refusal) → judge file k (Asks.Numbers room) ≡ a → of_described a ≡ refused m p → Applies file (describe_into k room) m p
      by (Ok d) said e = clash_verdict e
      by (Err f) said e = told_applies f e (judged_applies describes_into (Asks.Numbers room) (numbers_applies k room) f said)
  applies_of (place_into k n room) e = told_point places_into degrees_into e
  applies_of (sheet_into k n room) e = told_point sheets_into on_paper_into e
  applies_of (point k n) e = told_value_of tells value e
  applies_of (point_into k n room) e = told_value_of tells_into value_into e
  applies_of {m} {p} (picture k room) e = by (Describe.describe file k) refl e
    where
      by : (a : Result Description Refusal) → Describe.describe file k ≡ a → of_pictured (Picture.pictured_by (Picture.drawing_by file room a)) ≡ refused m p → Applies file (picture k room) m p
      by (Ok d) said e = drawn_applies k room d said e
      by (Err f) said e = told_applies f e (described_applies draws f said)

-- Describe never refuses with 16: that comes behind all that it tries.
module _ (file : List ℕ) where
  abbrev NotOutside : Result Description Refusal → Type 0
  NotOutside a = (p : ℕ) → a ≡ refused_at Why.ValueOutOfRange p → ⊥

  other_number : (why : declaredWhy.Why) {a p : ℕ} → number_of why < 16 → refusal why a ≡ refusal Why.ValueOutOfRange p → ⊥
  other_number why less e = let same = ap (λ (r : Refusal). number_of r.why) e in absurd (omega arith)

  other_refusal : (why : declaredWhy.Why) {a : ℕ} → number_of why < 16 → NotOutside (refused_at why a)
  other_refusal why {a} less p e = let same : refusal why a ≡ refusal Why.ValueOutOfRange p = cc in other_number why less same

  file_not_outside : {r : Refusal} → Refusals.Refused file r → (p : ℕ) → r ≡ refusal Why.ValueOutOfRange p → ⊥
  file_not_outside (Refusals.Refused.too_long h) p e = other_number Why.TooLong (omega arith) e
  file_not_outside (Refusals.Refused.empty h) p e = other_number Why.Empty (omega arith) e
  file_not_outside (Refusals.Refused.message some few before inside faulty) p e =
      let same = ap step (sym e) ∙ tiling_step faulty in
      absurd (omega (arith, same, in_order))

  field_not_outside : (l : Located) → NotOutside (described_at file l)
  field_not_outside l =
      at_section_1 file l NotOutside (λ _. other_refusal Why.BadIdentification (omega arith))
      (λ i _. at_section_3 file l NotOutside i (λ _. other_refusal Why.BadGrid (omega arith))
      (λ g _. at_section_4 file l NotOutside i g (λ _. other_refusal Why.BadProduct (omega arith))
      (λ m _. at_section_5 file l NotOutside i g m (λ _. other_refusal Why.BadRepresentation (omega arith))
      (λ r _. at_section_6 file l NotOutside i g m r (λ _. other_refusal Why.BadBitmap (omega arith))
      (λ q _. at_section_7 file l NotOutside i g m r q (λ _. other_refusal Why.BadPacking (omega arith))
      (λ _ _ p e. apart cc))))))

  pub describe_not_outside : (k : ℕ) → NotOutside (Describe.describe file k)
  describe_not_outside k = by (tiling_of file) refl
    where
      by : (o : InFile) → tiling_of file ≡ o → NotOutside (field_in file k o)
      by (Tiling.tiled m fs) is = split (ltb k (length fs)) (λ i. rw i (field_not_outside (get_or fs k nowhere))) (λ i. rw i (other_refusal Why.NoSuchField (omega arith)))
      by (Tiling.refused f) is = λ p e. let same : f ≡ refusal Why.ValueOutOfRange p = cc in file_not_outside ((refuses_so file f).0 is) p same

pub demand_1 : (file : List ℕ) → Demand1 file
demand_1 file =
    record {
      refuses = λ q n p. (λ e. record { applies = applies_of file q e; foremost = λ m s applies. foremost q e (caught file applies) }, first_refuses q n p);
      answers = λ q. (λ e n p applies. none_applies q e (caught file applies), unless q);
      one = λ q n p m s first second. one_verdict (sym (first_refuses q n p first) ∙ first_refuses q m s second);
      untouched = λ k start values presence n p e. kept start values presence (outcome file k start (length values) (length presence)) e;
      undrawn = λ k run n p e. undrawn run (Picture.drawing file k (length run)) e;
    }
  where
    foremost : (q : Question) {n p m s : ℕ} → verdict file q ≡ refused n p → CaughtTold file q m s → rank n ≤ rank m
    foremost q {n} {p} {m} e (f, given, inl is) = let same : n ≡ m = (one_verdict (sym e ∙ given)).0 ∙ is.0 in rw same (omega arith)
    foremost q {n} {p} {m} e (f, given, inr before) = let same : n ≡ number_of f.why = (one_verdict (sym e ∙ given)).0 in rw same (omega (arith, before))

    first_refuses : (q : Question) (n p : ℕ) → First file q n p → verdict file q ≡ refused n p
    first_refuses q n p first = by (caught file first.applies)
      where
        by : CaughtTold file q n p → verdict file q ≡ refused n p
        by (f, given, inl is) = rw (is.0, is.1) at given
        by (f, given, inr before) = absurd (omega (arith, before, first.foremost _ _ (applies_of file q given)))

    none_applies : (q : Question) {n p : ℕ} → verdict file q ≡ answered → CaughtTold file q n p → ⊥
    none_applies q e (f, given, o) = clash_verdict (sym e ∙ given)

    unless : (q : Question) → ((n p : ℕ) → Applies file q n p → ⊥) → verdict file q ≡ answered
    unless q none = by (verdict file q) refl
      where
        by : (v : Verdict) → verdict file q ≡ v → v ≡ answered
        by answered e = refl
        by (refused n p) e = absurd (none n p (applies_of file q e))

    kept :
        (start : ℕ) (values : List Float) (presence : List ℕ) {n p : ℕ} (o : Outcome) →
        of_decoded (answer_of o) ≡ refused n p →
        (values_after start values o ≡ values) × (presence_after start presence o ≡ presence)
    kept start values presence (gives points doubles marks) e = clash_verdict e
    kept start values presence (refuses f) e = (refl, refl)

    undrawn : (run : List ℕ) {n p : ℕ} (o : Picture.Drawing) → of_pictured (Picture.pictured_by o) ≡ refused n p → Picture.run_after run o ≡ run
    undrawn run (Picture.gives n octets) e = clash_verdict e
    undrawn run (Picture.refuses f) e = refl
