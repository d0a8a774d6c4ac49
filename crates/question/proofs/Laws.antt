-- What is known of the answers of describe and judge: each section of a field that is described was taken, and a refusal names a place within the largest
-- file that is taken.
use mathlib.Core.Path.{◌≡◌, refl, sym, ap, subst}
use mathlib.Core.List.{List}
use mathlib.Core.Bool.{true}
use Prim.Native.Nat.{ℕ, ◌+◌, ◌≤◌, ◌<◌}
use native.Mathlib.Omega.{arith}
use borrow.Author.Tests.{leb-true, ltb-true, ltb-false}
use lib.Dec.{leb, ltb}
use lib.ListN.{length, get_or}
use Rattle.octets.proofs.Cases.{apart, split, both}
use Rattle.section.specs.Sections.{Lies}
use Rattle.refusals.specs.declared.Refusal.{Refusal}
use Rattle.tiling_sections.specs.declared.Located.{Located}
use Rattle.tiling_sections.specs.Walk.{nowhere}
use Rattle.tiling_sections.specs.Laid.{Laid}
use Rattle.tiling.specs.Tiling.{largest, InFile, tiled, refused, tiling_of}
use Rattle.tiling.proofs.Bounds.{tiled_sound, field_laid, refused_placed}
use Rattle.section_3_geometry.specs.Geometry.{points_of}
use Rattle.section_3.proofs.Laws.{Passes, grid_passes, grid_few}
use Rattle.question.specs.declared.Description.{Description}
use Rattle.question.specs.Judged.{Judged}
use Rattle.question.specs.Describe.{discipline_at, described_at, field_in, describe}
use Rattle.question.specs.Judge.{Asks, has_room, is_decodable, description_length, asked_of, judge}
use Rattle.question.proofs.Chain.{at_section_1, at_section_3, at_section_4, at_section_5, at_section_6, at_section_7}
use Rattle.std.specs.Prelude.{Result, Ok, Err}

-- A refusal is no description, and an answer is one alone.
pub no_description : {A : Type 0} {r : Refusal} {d : Description} → Err r ≡ Ok d → A
no_description e = apart cc

pub one_answer : {A : Type 0} {a b : A} → ◌≡◌ {A = Result A Refusal} (Ok a) (Ok b) → a ≡ b
one_answer e = cc

module _ (file : List ℕ) (l : Located) where
  abbrev JudgedAs : Description → Result Description Refusal → Type 0
  JudgedAs d a = a ≡ Ok d → Judged file l d

  pub described_judged : (d : Description) → described_at file l ≡ Ok d → Judged file l d
  described_judged d =
      at_section_1 file l (JudgedAs d) (λ _. no_description)
      (λ i of_one. at_section_3 file l (JudgedAs d) i (λ _. no_description)
      (λ g of_three. at_section_4 file l (JudgedAs d) i g (λ _. no_description)
      (λ m of_four. at_section_5 file l (JudgedAs d) i g m (λ _. no_description)
      (λ r of_five. at_section_6 file l (JudgedAs d) i g m r (λ _. no_description)
      (λ p of_six. at_section_7 file l (JudgedAs d) i g m r p (λ _. no_description)
      (λ x of_seven same. subst (Judged file l) (one_answer same)
      (record { of_discipline = refl; of_one = of_one; of_three = of_three; of_four = of_four; of_five = of_five; of_six = of_six; of_seven = of_seven; of_starts = refl })))))))

-- A field whose sections are all taken is described so.
pub judged_described : (file : List ℕ) (l : Located) {d : Description} → Judged file l d → described_at file l ≡ Ok d
unfolding described_at
judged_described file l {d} j =
    rw (j.of_one, j.of_three, j.of_four, j.of_five, j.of_six, j.of_seven) (ap Ok (told j.of_discipline j.of_starts))
  where
    told : d.discipline ≡ discipline_at file l → d.starts ≡ l.starts →
        record {
          discipline = discipline_at file l;
          identification = d.identification;
          grid = d.grid;
          definition = d.definition;
          representation = d.representation;
          presence = d.presence;
          plan = d.plan;
          starts = l.starts;
        }
        ≡ d
    told discipline starts = rw (sym discipline, sym starts) refl

-- Field k of a file that is tiled, and where it lies.
pub record FieldOf (file : List ℕ) (k : ℕ) (l : Located) : Type 0 where
  pub messages : ℕ
  pub fields : List Located
  pub tiles : tiling_of file ≡ tiled messages fields
  pub below : k < length fields
  pub lies : get_or fields k nowhere ≡ l

module _ (file : List ℕ) (k : ℕ) where
  -- A field that is described lies somewhere in the file, and its sections were taken.
  pub described : {d : Description} → describe file k ≡ Ok d → (l : Located) × FieldOf file k l × Judged file l d
  described {d} = by (tiling_of file) refl
    where
      by : (o : InFile) → tiling_of file ≡ o → field_in file k o ≡ Ok d → (l : Located) × FieldOf file k l × Judged file l d
      by (tiled m fields) is h =
          let l : Located = get_or fields k nowhere in
          split (ltb k (length fields))
          (λ i. (l, record { messages = m; fields = fields; tiles = is; below = ltb-true k (length fields) i; lies = refl }, described_judged file l d (rw i at h)))
          (λ i. no_description (rw i at h))
      by (refused r) is h = no_description h

  pub described_laid : {l : Located} → FieldOf file k l → (length file ≤ largest) × Laid file l
  described_laid f = ((tiled_sound file f.tiles).0, subst (Laid file) f.lies (field_laid file k f.tiles f.below))

  -- Its grid has passed the tests of its kind, and has not too many points.
  pub described_grid : {d : Description} → describe file k ≡ Ok d → (s : ℕ) × Passes file s d.grid × (points_of d.grid ≤ 16777216)
  described_grid h =
      let known = described h in
      let s : ℕ = known.0.starts.three.0 in
      (s, grid_passes file s known.2.of_three, grid_few file s known.2.of_three)

-- A refusal, where there is one, names a place within the largest file that is taken.
abbrev Placed : Result Description Refusal → Type 0
Placed (Ok d) = Unit {0}
Placed (Err r) = r.place.0 ≤ largest

-- The refusals of a field's sections stand where the sections start, and these lie in the file.
described_placed : (file : List ℕ) (l : Located) → length file ≤ largest → Laid file l → Placed (described_at file l)
described_placed file l few laid =
    at_section_1 file l Placed (λ _. within laid.one)
    (λ i _. at_section_3 file l Placed i (λ _. within laid.three)
    (λ g _. at_section_4 file l Placed i g (λ _. within laid.four)
    (λ m _. at_section_5 file l Placed i g m (λ _. within laid.five)
    (λ r _. at_section_6 file l Placed i g m r (λ _. within laid.six)
    (λ p _. at_section_7 file l Placed i g m r p (λ _. within laid.seven) (λ _ _. tt))))))
  where
    within : {s : ℕ} → Lies file s → s ≤ largest
    within lies = omega (arith, lies.room, few)

module _ (file : List ℕ) (k : ℕ) where
  answer_placed : Placed (describe file k)
  answer_placed = by (tiling_of file) refl
    where
      by : (o : InFile) → tiling_of file ≡ o → Placed (field_in file k o)
      by (tiled m fields) is =
          split (ltb k (length fields))
          (λ i. rw i (described_placed file (get_or fields k nowhere) (tiled_sound file is).0 (field_laid file k is (ltb-true k (length fields) i))))
          (λ i. rw i (omega arith))
      by (refused r) is = refused_placed file is

  -- A refusal of describe is placed so.
  pub describe_placed : {r : Refusal} → describe file k ≡ Err r → r.place.0 ≤ largest
  describe_placed e = subst Placed e answer_placed

  -- The place of section 7 is one too.
  pub seven_placed : {d : Description} → describe file k ≡ Ok d → d.starts.seven.0 ≤ largest
  seven_placed h =
      let known = described file k h in
      let laid = described_laid file k known.1 in
      omega (arith, laid.0, laid.1.seven.room, ap (λ s. s.seven.0) known.2.of_starts)

  -- So is a refusal of judge.
  pub judge_placed : (asks : Asks) {r : Refusal} → judge file k asks ≡ Err r → r.place.0 ≤ largest
  judge_placed asks e = subst Placed e (by (describe file k) refl asks)
    where
      by : (a : Result Description Refusal) → describe file k ≡ a → (asks : Asks) → Placed (asked_of file asks a)
      by (Err r) h asks = describe_placed h
      by (Ok d) h (Asks.Numbers room) = split (ltb room (description_length d.grid)) (λ i. rw i (omega arith)) (λ i. rw i tt)
      by (Ok d) h (Asks.Values start values presence) =
          split (has_room start (points_of d.grid) values presence)
          (λ i. split (is_decodable file d) (λ j. rw (i, j) tt) (λ j. rw (i, j) (seven_placed h)))
          (λ i. rw i (omega arith))

-- Where there is room, the points fit into both runs.
pub room_fits : (start points values presence : ℕ) → has_room start points values presence ≡ true → (start + points ≤ values) × (start + points ≤ presence)
room_fits start points values presence e =
    let tests = both (leb (start + points) values) (leb (start + points) presence) e in
    (leb-true (start + points) values tests.0, leb-true (start + points) presence tests.1)

module _ (file : List ℕ) (k : ℕ) {d : Description} where
  -- What is answered in numbers is answered of a field that is described, and the run is long enough.
  pub judged_numbers : (room : ℕ) → judge file k (Asks.Numbers room) ≡ Ok d → (describe file k ≡ Ok d) × (description_length d.grid ≤ room)
  judged_numbers room = by (describe file k) refl
    where
      by : (a : Result Description Refusal) → describe file k ≡ a → asked_of file (Asks.Numbers room) a ≡ Ok d → (describe file k ≡ Ok d) × (description_length d.grid ≤ room)
      by (Err r) is h = no_description h
      by (Ok c) is h =
          split (ltb room (description_length c.grid))
          (λ i. no_description (rw i at h))
          (λ i. let same : c ≡ d = one_answer (rw i at h) in rw (← same) (is, ltb-false room (description_length c.grid) i))

  -- What is answered of values is answered of a field that is described, has room, and has its integers in their range.
  pub judged_values : (start values presence : ℕ) → judge file k (Asks.Values start values presence) ≡ Ok d →
      (describe file k ≡ Ok d) × (has_room start (points_of d.grid) values presence ≡ true) × (is_decodable file d ≡ true)
  judged_values start values presence = by (describe file k) refl
    where
      by : (a : Result Description Refusal) → describe file k ≡ a → asked_of file (Asks.Values start values presence) a ≡ Ok d →
          (describe file k ≡ Ok d) × (has_room start (points_of d.grid) values presence ≡ true) × (is_decodable file d ≡ true)
      by (Err r) is h = no_description h
      by (Ok c) is h =
          split (has_room start (points_of c.grid) values presence)
          (λ i.
          split (is_decodable file c)
          (λ j. let same : c ≡ d = one_answer (rw (i, j) at h) in rw (← same) (is, i, j))
          (λ j. no_description (rw (i, j) at h)))
          (λ i. no_description (rw i at h))
