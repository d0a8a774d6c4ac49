-- The laws of a picture: its largest X is that of a point that is present, and no other is larger; and where its octets lie in the run that it was written into.
use mathlib.Core.Path.{subst, ◌≡◌, refl, sym, ap, ap₂, subst, ◌∙◌}
use mathlib.Core.Bool.{Bool, true, cond}
use mathlib.Core.List.{List, ◌++◌}
use Prim.Native.Nat.{ℕ, zero, suc, ◌+◌, ◌-◌, ◌≤◌, ◌<◌}
use native.Mathlib.Nat.{add-zero}
use native.Mathlib.Numerals.{add-one}
use native.Mathlib.Omega.{arith}
use borrow.Author.Tests.{ltb-true, ltb-false, le-ltb, leb-true}
use lib.Dec.{ltb}
use lib.IntN.{ℤ, pos, negsuc, nat_abs}
use lib.ListN.{length, get_or, drop, length-append, get_or-append}
use lib.Seq.{get_or-append-add, get_or-drop}
use Rattle.octets.proofs.Cases.{apart, split}
use Rattle.laws_rows.specs.Rows.{row, laid, Puts}
use Rattle.laws_rows.proofs.Laws.{row_length, row_same, row_at}
use Rattle.laws_rows.proofs.Puts.{puts_then}
use Rattle.values_largest.specs.Largest.{largest_from, largest_of, largest_in}
use Rattle.values_largest.proofs.Laws.{largest_next, largest_same}
use Rattle.text.specs.Text.{decimal}
use Rattle.text.proofs.Laws.{decimal_short}
use Rattle.tiling.specs.Tiling.{largest}
use Rattle.section.specs.Sections.{octets_in}
use Rattle.section_3.proofs.Laws.{grid_counted}
use Rattle.section_7.specs.declared.Groups.{Groups}
use Rattle.section_7.specs.declared.Data.TheVariants as Data
use Rattle.greys.specs.Greys.{point_grey, divisor_of, scale_of, Below}
use Rattle.greys.proofs.Laws.{grey_divisor, divisor_least}
use Rattle.doubles.specs.Doubles.{is_in_range}
use Rattle.section_3_geometry.specs.declared.Frame.{Frame}
use Rattle.section_3_geometry.specs.Geometry.{frame_of, points_of}
use Rattle.values_points.specs.Written.{marks_in}
use Rattle.values_points.proofs.Marks.{field_marks_lem, field_ranks}
use Rattle.values_integers.specs.Integers.{simple_integer}
use Rattle.values_integers.proofs.Range.{in_range_one}
use Rattle.values_picture.specs.Painted.{grey_at}
use Rattle.values_complex.specs.Complex.{values_in, integer_in, size_in}
use Rattle.question.specs.declared.Description.{Description}
use Rattle.question.specs.Describe.{describe}
use Rattle.question.specs.Judge.{Known, integer_of, is_decodable}
use Rattle.question.proofs.Laws.{describe_placed, seven_placed}
use Rattle.question.proofs.Known.{bitmap, bitmap_lies, located, judged, few_points, packed_present, simple_decodable, groups_values, groups_decodable}
use Rattle.question_decode.specs.Decoding.{present_of, rank_of}
use Rattle.question_decode.proofs.Laws.{simple_size, groups_size, field_ranked, rank_among}
use Rattle.question_picture.specs.Picture.{counting, largest_present, greys_of, header, picture_length, point_integer, picture_of, gives, picture_asked, drawing_by, pictured_by, pictured, LargestOf}
use Rattle.std.specs.Prelude.{max, Option, Some, None, Result, Ok, Err}
use Rattle.refusals.specs.declared.Refusal.{Refusal}

-- The largest X of the points that are present is the largest of those that are packed: as many as points are present.
counted_packed : (x : ℕ → ℕ) (rank mark : ℕ) {largest : ℕ} → mark < 2 → largest ≡ largest_of x rank → counting largest mark (x rank) ≡ largest_of x (rank + mark)
counted_packed x rank zero few same = same ∙ sym (ap (largest_of x) (add-zero rank))
counted_packed x rank (suc zero) few same = ap (λ (largest : ℕ). max largest (x rank)) same ∙ sym (largest_next 0 x rank refl)
counted_packed x rank (suc (suc mark)) few same = absurd (omega arith)

pub largest_packed : (mark rank x : ℕ → ℕ) → rank 0 ≡ 0 → ((i : ℕ) → rank (i + 1) ≡ rank i + mark i) → ((i : ℕ) → mark i < 2) → (n : ℕ) →
    largest_present mark (λ i. x (rank i)) n ≡ largest_of x (rank n)
unfolding largest_present largest_from
largest_packed mark rank x none more few zero = sym (ap (largest_of x) none)
largest_packed mark rank x none more few (suc n) =
    counted_packed x (rank n) (mark n) (few n) (largest_packed mark rank x none more few n) ∙ ap (largest_of x) (sym (more n) ∙ ap rank (add-one n))

module _ (mark x : ℕ → ℕ) (few : (i : ℕ) → mark i < 2) where
  -- No point that is present has a larger X than the largest.
  counting_least : (largest m y : ℕ) → largest ≤ counting largest m y
  counting_least largest zero y = omega arith
  counting_least largest (suc m) y = omega arith

  counting_present : (largest m y : ℕ) → m ≡ 1 → y ≤ counting largest m y
  counting_present largest m y is = rw is (omega arith)

  pub largest_bounds : (n i : ℕ) → i < n → mark i ≡ 1 → x i ≤ largest_present mark x n
  unfolding largest_present
  largest_bounds zero i h is = absurd (omega arith)
  largest_bounds (suc n) i h is =
      split (ltb i n)
      (λ before. omega (arith, largest_bounds n i (ltb-true i n before) is, counting_least (largest_present mark x n) (mark n) (x n)))
      (λ last.
      let here : i ≡ n = omega (arith, ltb-false i n last) in
      let now : mark n ≡ 1 = ap mark (sym here) ∙ is in
      omega (arith, ap x here, counting_present (largest_present mark x n) (mark n) (x n) now))

  -- One of them has it, unless it is 0.
  abbrev Reached : ℕ → ℕ → Type 0
  Reached n largest = (i : ℕ) × (i < n) × (mark i ≡ 1) × (x i ≡ largest)

  later : {n largest : ℕ} → Reached n largest → Reached (suc n) largest
  later r = (r.0, omega (arith, r.1), r.2, r.3)

  found : (largest n m : ℕ) → mark n ≡ suc m → (1 ≤ largest → Reached n largest) → 1 ≤ max largest (x n) → Reached (suc n) (max largest (x n))
  found largest n m is before some =
      split (ltb largest (x n))
      (λ less. (n, omega arith, omega (arith, is, few n), omega (arith, ltb-true largest (x n) less)))
      (λ not.
      let same : max largest (x n) ≡ largest = omega (arith, ltb-false largest (x n) not) in
      subst (Reached (suc n)) (sym same) (later (before (omega (arith, some, same)))))

  counted : (largest n m : ℕ) → mark n ≡ m → (1 ≤ largest → Reached n largest) → 1 ≤ counting largest m (x n) → Reached (suc n) (counting largest m (x n))
  counted largest n zero is before some = later (before some)
  counted largest n (suc m) is before some = found largest n m is before some

  pub largest_reached : (n : ℕ) → 1 ≤ largest_present mark x n → Reached n (largest_present mark x n)
  unfolding largest_present
  largest_reached zero some = absurd (omega arith)
  largest_reached (suc n) some = counted (largest_present mark x n) n (mark n) refl (largest_reached n) some

-- No integer is larger than the largest, which is no larger than what none is.
pub largest_least : (x : ℕ → ℕ) (n k : ℕ) → k < n → x k ≤ largest_of x n
unfolding largest_from
largest_least x zero k h = absurd (omega arith)
largest_least x (suc n) k h =
    split (ltb k n)
    (λ before. omega (arith, largest_least x n k (ltb-true k n before)))
    (λ last. let here : k ≡ n = omega (arith, ltb-false k n last) in omega (arith, ap x here))

pub largest_few : {most : ℕ} (x : ℕ → ℕ) (n : ℕ) → ((k : ℕ) → k < n → x k ≤ most) → largest_of x n ≤ most
unfolding largest_from
largest_few x zero each = omega arith
largest_few x (suc n) each = omega (arith, largest_few x n (λ k h. each k (omega arith)), each n (omega arith))

-- An integer in its range has a size in that range, and an answer is one alone.
own_range : (z : ℤ) → is_in_range z ≡ true → nat_abs z ≤ 2147483647
own_range (pos x) e = leb-true x 2147483647 e
own_range (negsuc x) e = apart cc

one_largest : {a b : ℕ} → ◌≡◌ {A = Option ℕ} (Some a) (Some b) → b ≡ a
one_largest e = cc

-- Two pieces that are laid at the start of a run: where the octets of each lie, and that all behind them is as it was.
module _ {A : Type 0} (run lines : List A) (f : ℕ → A) (n : ℕ) (z : A) where
  abbrev whole : List A
  whole = lines ++ row f n

  long : length whole ≡ length lines + n
  long = length-append lines (row f n) ∙ ap (λ (k : ℕ). length lines + k) (row_length f n)

  pub start_lines : (i : ℕ) → i < length lines → get_or (laid run 0 whole) i z ≡ get_or lines i z
  start_lines i h = get_or-append whole _ z i (omega (arith, long)) ∙ get_or-append lines (row f n) z i h

  pub start_points : (i : ℕ) → i < n → get_or (laid run 0 whole) (length lines + i) z ≡ f i
  start_points i h = get_or-append whole _ z (length lines + i) (omega (arith, long)) ∙ get_or-append-add lines (row f n) i z ∙ row_at f n i z h

  pub start_behind : (i : ℕ) → length lines + n ≤ i → get_or (laid run 0 whole) i z ≡ get_or run i z
  start_behind i h =
      let place : i ≡ length whole + (i - length whole) = omega (arith, long) in
      let same : 0 + length whole + (i - length whole) ≡ i = omega (arith, long) in
      ap (λ (k : ℕ). get_or (laid run 0 whole) k z) place
      ∙ get_or-append-add whole (drop (0 + length whole) run) (i - length whole) z
      ∙ get_or-drop (0 + length whole) run (i - length whole) z
      ∙ ap (λ (k : ℕ). get_or run k z) same

module _ (file : List ℕ) (d : Description) (known : Known file d) where
  abbrev section : List ℕ
  section = octets_in file d.starts.seven.0

  abbrev n : ℕ
  n = d.representation.n

  -- The largest of the integers of either template is the field's own.
  pub simple_largest : d.plan ≡ Data.Simple → Some (largest_of (simple_integer section d.representation.bits) n) ≡ largest_in (integer_of file d) n
  simple_largest plan = rw (simple_decodable file d known plan) (ap Some (largest_same 0 _ _ n (λ m _. simple_size file d known plan m)))

  pub groups_largest : {groups : Groups} → d.plan ≡ Data.Complex groups → largest_in (integer_in section groups) (values_in section groups) ≡ largest_in (integer_of file d) n
  groups_largest {groups} plan =
      ap₂ (λ (inside : Bool) (largest : ℕ). cond inside (Some largest) None) (groups_decodable file d known plan)
      (ap (largest_of (size_in section groups)) (groups_values file d known plan) ∙ largest_same 0 _ _ n (λ m _. groups_size file d known plan m))

  -- The size of the integer numbered m.
  abbrev size : ℕ → ℕ
  size m = nat_abs (integer_of file d m)

  -- Where a largest integer is told, all are in their range, and it is the largest of their sizes.
  pub largest_told : {largest : ℕ} → LargestOf file d largest → (is_decodable file d ≡ true) × (largest ≡ largest_of size n)
  largest_told {largest} told =
      split (is_decodable file d) (λ all. (all, one_largest (rw all at told))) (λ fails. let none = rw fails at told in apart cc)

  module _ {largest : ℕ} (told : LargestOf file d largest) where
    -- It is in its range, and no size is larger.
    pub largest_ranges : largest ≤ 2147483647
    largest_ranges =
        omega (arith, (largest_told told).1, largest_few size n (λ m h. own_range (integer_of file d m) (in_range_one (integer_of file d) n {j = m} (largest_told told).0 h)))

    pub sizes_below : (x : ℕ → ℕ) → ((m : ℕ) → x m ≡ size m) → Below (scale_of largest) x n
    sizes_below x same m h = omega (arith, same m, largest_least size n m h, (largest_told told).1, divisor_least largest)

    -- The greys of all points, by the integers as they are packed, are those of the picture.
    pub field_greys : {x : ℕ → ℕ} → ((m : ℕ) → x m ≡ size m) → {points : ℕ} → points ≡ points_of d.grid →
        row (grey_at (marks_in (bitmap file d known)) (scale_of largest) x) points ≡ greys_of (present_of file d) (point_integer file d) (points_of d.grid)
    field_greys {x} same {points} all = rw all (row_same _ _ (points_of d.grid) each)
      where
        most : largest_present (present_of file d) (point_integer file d) (points_of d.grid) ≡ largest
        most =
            let ranked = field_ranked file d in
            largest_packed (present_of file d) (rank_of file d) size ranked.none ranked.more ranked.few (points_of d.grid)
            ∙ ap (largest_of size) (sym (packed_present file d known))
            ∙ sym (largest_told told).1

        grey : (i m : ℕ) → i < points_of d.grid → present_of file d i ≡ m → point_grey (divisor_of largest) m (point_integer file d i) ≡ point_grey largest m (point_integer file d i)
        grey i zero h is = refl
        grey i (suc m) h is =
            let one : present_of file d i ≡ 1 = omega (arith, is, (field_ranked file d).few i) in
            grey_divisor largest (point_integer file d i) (omega (arith, largest_least size n (rank_of file d i) (rank_among file d known i h one), (largest_told told).1))

        each : (i : ℕ) → i < points_of d.grid → grey_at (marks_in (bitmap file d known)) (scale_of largest) x i ≡ point_grey (largest_present (present_of file d) (point_integer file d) (points_of d.grid)) (present_of file d i) (point_integer file d i)
        each i h =
            ap₂ (point_grey (divisor_of largest)) (sym (field_marks_lem file d.presence (points_of d.grid) (bitmap_lies file d known) i h))
            (ap x (sym (field_ranks file d.presence (points_of d.grid) (bitmap_lies file d known) i (omega arith))) ∙ same (rank_of file d i))
            ∙ grey i (present_of file d i) h refl
            ∙ ap (λ (m : ℕ). point_grey m (present_of file d i) (point_integer file d i)) (sym most)

-- Ni and Nj have at most five digits.
pub short_sizes : (file : List ℕ) (d : Description) → Known file d → ((frame_of d.grid).ni ≤ 65535) × ((frame_of d.grid).nj ≤ 65535)
short_sizes file d known =
    let count = grid_counted file (located file d known).0.starts.three.0 (judged file d known).of_three in
    (count.columns65535, count.rows65535)

-- How long the lines are. They are short.
pub header_long : (f : Frame) → length (header f) ≡ 9 + length (decimal f.ni) + length (decimal f.nj)
header_long f = simp length-append (omega arith)

pub header_short : (f : Frame) → length (header f) ≤ 49
header_short f = simp length-append (omega (arith, decimal_short f.ni, decimal_short f.nj))

module _ (file : List ℕ) (room : ℕ) (d : Description) where
  pub asked_drawn : picture_length (frame_of d.grid) ≤ room → is_decodable file d ≡ true → gives (picture_length (frame_of d.grid)) (picture_of file d) ≡ picture_asked file room d
  asked_drawn fits all = rw (le-ltb room (picture_length (frame_of d.grid)) fits, all)

-- Greys that are laid behind the lines: both are laid as one.
pub laid_drawn : {A : Type 0} (run lines greys : List A) {first : ℕ} {put painted : List A} → length lines + length greys ≤ length run → Puts run 0 lines put first → painted ≡ laid put first greys →
    painted ≡ laid run 0 (lines ++ greys)
laid_drawn run lines greys {first} fits lines_put greys-laid = (puts_then run 0 lines greys (omega arith) lines_put (greys-laid, refl)).0

-- An answer of picture: its length is that of a picture of a grid that is taken, and a refusal is placed within the largest file that is taken.
abbrev pub Modest : Result ℕ Refusal → Type 0
Modest (Ok n) = n ≤ 16777265
Modest (Err r) = r.place.0 ≤ largest

pub picture_modest : (file : List ℕ) (k room : ℕ) → Modest (pictured file k room)
picture_modest file k room = by (describe file k) refl
  where
    by : (a : Result Description Refusal) → describe file k ≡ a → Modest (pictured_by (drawing_by file room a))
    by (Ok d) said =
        split (ltb room (picture_length (frame_of d.grid))) (λ none. rw none (omega arith))
        (λ enough.
        split (is_decodable file d) (λ all. rw (enough, all) (omega (arith, header_short (frame_of d.grid), few_points file d (k, said))))
        (λ fails. rw (enough, fails) (seven_placed file k said)))
    by (Err r) said = describe_placed file k said
