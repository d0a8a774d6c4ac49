-- The greys of the points that are present lie behind each other, and are moved to their points: what is so at each point on the way, and at the end. Where they were
-- put there by the integers of a field, each point then has its own.
use mathlib.Core.Path.{◌≡◌, refl, sym, ap, ap₂, ◌∙◌}
use mathlib.Core.List.{List}
use Prim.Native.Nat.{ℕ, zero, suc, ◌+◌, ◌-◌, ◌≤◌, ◌<◌}
use native.Mathlib.Nat.{add-zero}
use native.Mathlib.Omega.{arith}
use borrow.Author.Tests.{ltb-true, ltb-false}
use lib.Dec.{ltb}
use lib.ListN.{length, take, drop, set, get_or, length-set}
use lib.Seq.{get_or-set_same, get_or-set_other, ext_get_or}
use borrow.Rule.Slice.PartMut.{put_mid, mid_len}
use Rattle.octets.proofs.Cases.{split}
use Rattle.laws_rows.specs.Rows.{row, laid}
use Rattle.laws_rows.proofs.Laws.{row_length, row_same, row_at, part_laid, laid_within}
use Rattle.greys.specs.declared.Scale.{Scale}
use Rattle.values_points.specs.Written.{Marks, marks_in, Covers}
use Rattle.values_points.proofs.Marks.{Ranked, ranked, rank_most}
use Rattle.values_points.proofs.Laws.{rank_mono}
use Rattle.values_greys.specs.Packed.{packed_grey}
use Rattle.values_picture.specs.Painted.{grey_at, given, Canvas}

-- The points before i have what they are given of the run, and the greys from place `next` on lie where they lay: that of the next point that is present is the first
-- of them. What lies between is not read any more.
pub record Spread (m : Marks) (run : List ℕ) (from next i : ℕ) (greys : List ℕ) : Type 0 where
  pub kept : length greys ≡ length run
  pub place : next ≡ from + m.rank i
  pub ahead : i ≤ next
  pub within : next ≤ length run
  pub done : (j : ℕ) → j < i → get_or greys j 0 ≡ given run from (m.mark j) (m.rank j)
  pub left : (j : ℕ) → next ≤ j → get_or greys j 0 ≡ get_or run j 0

module _ (m : Marks) (r : Ranked m) (run : List ℕ) (from : ℕ) (whole : from + m.rank (length run) ≡ length run) where
  -- Of so many points no more are present.
  rank_between : (i n : ℕ) → m.rank (i + n) ≤ m.rank i + n
  rank_between i zero = omega (arith, ap m.rank (add-zero i))
  rank_between i (suc n) = let longer : i + suc n ≡ i + n + 1 = omega arith in omega (arith, rank_between i n, r.more (i + n), r.few (i + n), ap m.rank longer)

  -- What point j is given.
  abbrev pub own : ℕ → ℕ
  own j = given run from (m.mark j) (m.rank j)

  -- Before the first point is looked at, all lies where it lay.
  pub spread_none : Spread m run from from 0 run
  spread_none =
      record {
        kept = refl;
        place = omega (arith, r.none);
        ahead = omega arith;
        within = omega arith;
        done = λ j l. absurd (omega arith);
        left = λ j l. refl;
      }

  module _ {next i : ℕ} {greys : List ℕ} (s : Spread m run from next i greys) (before : i < next) where
    -- A point that is written, and those before it.
    done_more : (x : ℕ) → x ≡ own i → (j : ℕ) → j < i + 1 → get_or (set greys i x) j 0 ≡ own j
    done_more x e j l =
        split (ltb j i)
        (λ fewer. let less = ltb-true j i fewer in get_or-set_other greys i j x 0 (λ same. absurd (omega (arith, less, same))) ∙ s.done j less)
        (λ last.
        let same : j ≡ i = omega (arith, ltb-false j i last) in
        ap (λ (k : ℕ). get_or (set greys i x) k 0) same ∙ get_or-set_same greys i x 0 (omega (arith, s.kept, s.within)) ∙ e ∙ ap own (sym same))

    -- It lies before the greys that are left.
    left_more : (x j : ℕ) → next ≤ j → get_or (set greys i x) j 0 ≡ get_or run j 0
    left_more x j l = get_or-set_other greys i j x 0 (λ same. absurd (omega (arith, before, same))) ∙ s.left j l

    -- A point that is present has a grey left.
    pub next_within : m.mark i ≡ 1 → next + 1 ≤ length run
    next_within e = omega (arith, s.place, s.within, r.more i, rank_mono m r.more {i = i + 1} (length run) (omega (arith, s.within)))

    -- The next point is present: the first of the greys that are left is its own.
    pub spread_present : m.mark i ≡ 1 → Spread m run from (next + 1) (i + 1) (set greys i (get_or greys next 0))
    spread_present e =
        record {
          kept = length-set greys i (get_or greys next 0) ∙ s.kept;
          place = omega (arith, s.place, r.more i);
          ahead = omega arith;
          within = next_within e;
          done =
              done_more (get_or greys next 0)
              (s.left next (omega arith) ∙ ap (λ (k : ℕ). get_or run k 0) s.place ∙ sym (ap (λ (k : ℕ). given run from k (m.rank i)) e));
          left = λ j l. left_more (get_or greys next 0) j (omega arith);
        }

    -- The next point is missing.
    pub spread_missing : m.mark i ≡ 0 → Spread m run from next (i + 1) (set greys i 0)
    spread_missing e =
        record {
          kept = length-set greys i 0 ∙ s.kept;
          place = omega (arith, s.place, r.more i);
          ahead = omega arith;
          within = s.within;
          done = done_more 0 (sym (ap (λ (k : ℕ). given run from k (m.rank i)) e));
          left = left_more 0;
        }

  -- Where the next grey lies at the next point, all points behind are present and have their own.
  pub spread_whole : {next i : ℕ} {greys : List ℕ} → Spread m run from next i greys → next ≤ i → greys ≡ row own (length run)
  spread_whole {next} {i} {greys} s met =
      ext_get_or 0 greys (row own (length run)) (s.kept ∙ sym (row_length own (length run)))
      (λ j l. let inside : j < length run = omega (arith, l, s.kept) in each j inside ∙ sym (row_at own (length run) j 0 inside))
    where
      -- As many points are present from i up to j as there are.
      level : (j : ℕ) → i ≤ j → j ≤ length run → from + m.rank j ≡ j
      level j l k =
          let here : i + (j - i) ≡ j = omega arith in
          let end : j + (length run - j) ≡ length run = omega arith in
          omega (arith, whole, met, s.place, s.ahead, rank_between i (j - i), ap m.rank here, rank_between j (length run - j), ap m.rank end)

      each : (j : ℕ) → j < length run → get_or greys j 0 ≡ own j
      each j inside =
          split (ltb j i) (λ fewer. s.done j (ltb-true j i fewer))
          (λ behind.
          let past : i ≤ j = ltb-false j i behind in
          let here = level j past (omega arith) in
          let present : m.mark j ≡ 1 = omega (arith, here, level (j + 1) (omega arith) (omega arith), r.more j) in
          s.left j (omega (arith, met))
          ∙ ap (λ (k : ℕ). get_or run k 0) (sym here)
          ∙ sym (ap (λ (k : ℕ). given run from k (m.rank j)) present))

-- What a point is given of a run in which the greys of n integers lie from `from` on is its own grey.
pub given_grey : (m : Marks) → Ranked m → (s : Scale) (x : ℕ → ℕ) (run : List ℕ) (from n i : ℕ) → n ≡ m.rank (length run) → from + n ≡ length run → i < length run →
    given (laid run from (row (packed_grey s x) n)) from (m.mark i) (m.rank i) ≡ grey_at m s x i
given_grey m r s x run from n i packed whole inside = by (m.mark i) refl
  where
    by : (k : ℕ) → m.mark i ≡ k → given (laid run from (row (packed_grey s x) n)) from k (m.rank i) ≡ grey_at m s x i
    by zero e = rw e refl
    by (suc k) e =
        rw e (laid_within run from (packed_grey s x) n 0 (omega arith) (m.rank i) (omega (arith, packed, r.more i, rank_mono m r.more {i = i + 1} (length run) (omega arith))))

-- A run that is lent for the points of a field, which has n integers. Its last n octets are lent on for their greys, and come back.
module _ (bitmap run : List ℕ) (n : ℕ) (canvas : Canvas bitmap (length run) n) where
  abbrev from : ℕ
  from = length run - n

  -- No more integers are packed than there are points.
  pub packed_fit : n ≤ length run
  packed_fit = omega (arith, canvas.2, rank_most (ranked bitmap) (length run))

  -- What is lent on has an octet for each integer.
  pub lent_length : length (take (length run - from) (drop from run)) ≡ n
  lent_length = mid_len from (length run) run (omega arith) ∙ omega (arith, packed_fit)

  -- What `spread` demands of the run with that part back in it, which is as long as it was.
  pub spread_ready : (whole : ℕ) → whole ≡ length run → ((whole ≤ 16777216) × Covers bitmap whole) × (from + (marks_in bitmap).rank whole ≡ whole)
  spread_ready whole same = rw same ((canvas.0, canvas.1), omega (arith, packed_fit, canvas.2))

  -- Where it came back with the greys of the integers, the run that is spread has the grey of each point.
  pub spread_painted : (s : Scale) (x : ℕ → ℕ) (part after : List ℕ) →
      let whole = put_mid from (length run - from) run part in
      part ≡ row (packed_grey s x) (length (take (length run - from) (drop from run))) →
      length whole ≡ length run →
      after ≡ row (λ i. given whole from ((marks_in bitmap).mark i) ((marks_in bitmap).rank i)) (length whole) →
      after ≡ row (grey_at (marks_in bitmap) s x) (length run)
  spread_painted s x part after put same spread =
      let m = marks_in bitmap in
      let greys : List ℕ = row (packed_grey s x) n in
      let back : put_mid from (length run - from) run part ≡ laid run from greys =
      part_laid from (length run) run part greys (put ∙ ap (row (packed_grey s x)) lent_length) (row_length (packed_grey s x) n ∙ omega (arith, packed_fit)) in
      spread
      ∙ ap₂ (λ (whole : List ℕ) (k : ℕ). row (λ i. given whole from (m.mark i) (m.rank i)) k) back same
      ∙ row_same (λ i. given (laid run from greys) from (m.mark i) (m.rank i)) (grey_at m s x) (length run)
      (λ i l. given_grey m (ranked bitmap) s x run from n i canvas.2 (omega (arith, packed_fit)) l)
