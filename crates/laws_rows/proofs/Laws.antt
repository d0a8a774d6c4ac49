-- The laws of rows and of stretches: a run whose elements were all set is a row, and a stretch that was lent and came back lies where it lay.
use mathlib.Core.Path.{◌≡◌, refl, sym, ap, ap₂, ◌∙◌}
use mathlib.Core.List.{List, [], ◌∷◌, ◌++◌, append-nil, append_assoc}
use Prim.Native.Nat.{ℕ, zero, suc, ◌+◌, ◌-◌, ◌≤◌, ◌<◌}
use native.Mathlib.Nat.{add-zero, zero-add, sub-zero, add-suc, add_assoc}
use native.Mathlib.Numerals.{add-one}
use native.Mathlib.Omega.{arith}
use borrow.Author.Tests.{ltb-true, ltb-false}
use borrow.Rule.Slice.PartMut.{put_mid}
use lib.Dec.{ltb}
use lib.ListN.{length, take, drop, set, get_or, length-append, length-set, get_or-append}
use lib.Seq.{length-take-le, take_all, take-append-le, drop-length, set_at, drop-drop, drop-cons, get_or-append-add, get_or_at, get_or-take, get_or-drop}
use Rattle.octets.proofs.Cases.{split}
use Rattle.laws_rows.specs.Rows.{row, laid, filled}

module _ {A : Type 0} where
  pub row_length : (f : ℕ → A) (n : ℕ) → length (row f n) ≡ n
  unfolding row
  row_length f zero = refl
  row_length f (suc n) = length-append (row f n) (f n ∷ []) ∙ omega (arith, row_length f n)

  -- Rows with the same elements are the same.
  pub row_same : (f g : ℕ → A) (n : ℕ) → ((i : ℕ) → i < n → f i ≡ g i) → row f n ≡ row g n
  unfolding row
  row_same f g zero h = refl
  row_same f g (suc n) h = ap₂ (λ (r : List A) (x : A). r ++ (x ∷ [])) (row_same f g n (λ i l. h i (omega arith))) (h n (omega arith))

  -- A row is its first elements, and behind them the others.
  pub row_then : (f : ℕ → A) (n m : ℕ) → row f n ++ row (λ k. f (n + k)) m ≡ row f (n + m)
  unfolding row
  row_then f n zero = append-nil (row f n) ∙ ap (row f) (sym (add-zero n))
  row_then f n (suc m) =
      sym (append_assoc (row f n) (row (λ k. f (n + k)) m) (f (n + m) ∷ []))
      ∙ ap (λ (r : List A). r ++ (f (n + m) ∷ [])) (row_then f n m)
      ∙ ap (row f) (sym (add-suc n m))

  -- The element of a row.
  pub row_at : (f : ℕ → A) (n i : ℕ) (z : A) → i < n → get_or (row f n) i z ≡ f i
  unfolding row
  row_at f zero i z h = absurd (omega arith)
  row_at f (suc n) i z h =
      split (ltb i n)
      (λ before. let l = ltb-true i n before in get_or-append (row f n) (f n ∷ []) z i (omega (arith, row_length f n)) ∙ row_at f n i z l)
      (λ last.
      let same : i ≡ n = omega (arith, ltb-false i n last) in
      get_or_at (row f n) (f n) [] z i (row_length f n ∙ sym same) ∙ ap f (sym same))

  -- The first elements of a row.
  pub row_part : (f : ℕ → A) (n m : ℕ) → n ≤ m → take n (row f m) ≡ row f n
  unfolding row
  row_part f n zero h = let none : n ≡ 0 = omega arith in rw none refl
  row_part f n (suc m) h =
      split (ltb n (suc m))
      (λ fewer. take-append-le n (row f m) (f m ∷ []) (omega (arith, row_length f m, ltb-true n (suc m) fewer)) ∙ row_part f n m (omega (arith, ltb-true n (suc m) fewer)))
      (λ all.
      let same : n ≡ suc m = omega (arith, ltb-false n (suc m) all) in
      rw same (take_all (suc m) (row f (suc m)) (omega (arith, row_length f (suc m)))))

  -- A stretch that is filled has the elements of the row, and what lies outside it is as it was.
  module _ (f : ℕ → A) (at : ℕ) where
    pub filled_length : (n : ℕ) (run : List A) → length (filled f at n run) ≡ length run
    unfolding filled
    filled_length zero run = refl
    filled_length (suc n) run = length-set (filled f at n run) (at + n) (f (at + n)) ∙ filled_length n run

    -- One element more.
    pub filled_more : (n : ℕ) (run : List A) → filled f at (n + 1) run ≡ set (filled f at n run) (at + n) (f (at + n))
    unfolding filled
    filled_more n run = ap (λ (m : ℕ). filled f at m run) (add-one n)

    -- One stretch, and another behind it.
    pub filled_then : (n m : ℕ) (run : List A) → filled f (at + n) m (filled f at n run) ≡ filled f at (n + m) run
    unfolding filled
    filled_then n zero run = ap (λ (k : ℕ). filled f at k run) (sym (add-zero n))
    filled_then n (suc m) run =
        ap₂ (λ (before : List A) (place : ℕ). set before place (f place)) (filled_then n m run) (add_assoc at n m)
        ∙ sym (ap (λ (k : ℕ). filled f at k run) (add-suc n m))

  -- Where the element behind a stretch is set, the stretch is longer by one.
  pub filled_next : (f : ℕ → A) (at i : ℕ) (run now : List A) {x : A} → at ≤ i → now ≡ filled f at (i - at) run → x ≡ f i → set now i x ≡ filled f at (i + 1 - at) run
  filled_next f at i run now {x} h e same =
      let place : at + (i - at) ≡ i = omega arith in
      let longer : i - at + 1 ≡ i + 1 - at = omega arith in
      ap₂ (λ (before : List A) (y : A). set before i y) e same
      ∙ sym (ap (λ (k : ℕ). set (filled f at (i - at) run) k (f k)) place)
      ∙ sym (filled_more f at (i - at) run)
      ∙ ap (λ (n : ℕ). filled f at n run) longer

  -- One element more, in a run that is filled from its start, and four.
  pub filled_one : (f : ℕ → A) (i : ℕ) (run now : List A) {x : A} → now ≡ filled f 0 i run → x ≡ f i → set now i x ≡ filled f 0 (i + 1) run
  filled_one f i run now so_far same =
      rw (sub-zero (i + 1)) at (filled_next f 0 i run now (omega arith) (rw (sub-zero i) so_far) same)

  pub filled_four : (f : ℕ → A) (i : ℕ) (run now : List A) {a b c d : A} → now ≡ filled f 0 i run → a ≡ f i → b ≡ f (i + 1) → c ≡ f (i + 2) → d ≡ f (i + 3) →
      set (set (set (set now i a) (i + 1) b) (i + 2) c) (i + 3) d ≡ filled f 0 (i + 4) run
  filled_four f i run now so_far one two three last =
      next (i + 3) (omega arith) (next (i + 2) (omega arith) (next (i + 1) (omega arith) (next i refl so_far one) two) three) last
    where
      next : (k : ℕ) {later : ℕ} → k + 1 ≡ later → {before : List A} {x : A} → before ≡ filled f 0 k run → x ≡ f k → set before k x ≡ filled f 0 later run
      next k one_more {before} done same = filled_one f k run before done same ∙ ap (λ (n : ℕ). filled f 0 n run) one_more

  -- Stretches filled with the same elements are the same.
  pub filled_same : (f g : ℕ → A) (at n : ℕ) (run : List A) → ((i : ℕ) → at ≤ i → i < at + n → f i ≡ g i) → filled f at n run ≡ filled g at n run
  unfolding filled
  filled_same f g at zero run h = refl
  filled_same f g at (suc n) run h =
      ap₂ (λ (before : List A) (x : A). set before (at + n) x) (filled_same f g at n run (λ i l m. h i l (omega arith))) (h (at + n) (omega arith) (omega arith))

  -- A run filled up to a, and then up to b.
  pub filled_on : (f : ℕ → A) (at : ℕ) {a b : ℕ} (run before after : List A) → at ≤ a → a ≤ b → before ≡ filled f at (a - at) run → after ≡ filled f a (b - a) before → after ≡ filled f at (b - at) run
  filled_on f at {a} {b} run before after g h first then =
      let here : a ≡ at + (a - at) = omega arith in
      let all : a - at + (b - a) ≡ b - at = omega arith in
      then
      ∙ ap₂ (λ (from : ℕ) (r : List A). filled f from (b - a) r) here first
      ∙ filled_then f at (a - at) (b - a) run
      ∙ ap (λ (n : ℕ). filled f at n run) all

  -- The same of a run that is filled from its start.
  pub filled_further : (f : ℕ → A) {a b : ℕ} (run before after : List A) → a ≤ b → before ≡ filled f 0 a run → after ≡ filled f a (b - a) before → after ≡ filled f 0 b run
  filled_further f {a} {b} run before after h first then = rw (sub-zero b) at (filled_on f 0 run before after (omega arith) h (rw (sub-zero a) first) then)

  -- A run filled from its start has a row there.
  filled_start : (f : ℕ → A) (n : ℕ) (run : List A) → n ≤ length run → filled f 0 n run ≡ row f n ++ drop n run
  unfolding filled row
  filled_start f zero run h = refl
  filled_start f (suc n) run h =
      let rest : List A = drop (suc n) run in
      ap₂ (λ (before : List A) (place : ℕ). set before place (f place)) (filled_start f n run (omega arith)) (zero-add n)
      ∙ ap (λ (behind : List A). set (row f n ++ behind) n (f n)) (drop-cons run n (f n) (omega arith))
      ∙ set_at (row f n) (get_or run n (f n)) rest (f n) n (row_length f n)
      ∙ sym (append_assoc (row f n) (f n ∷ []) rest)

  -- A run that is filled whole is a row.
  pub filled_whole : (f : ℕ → A) (n : ℕ) (run : List A) → n ≡ length run → filled f 0 n run ≡ row f n
  filled_whole f n run e =
      filled_start f n run (omega arith) ∙ ap (λ (rest : List A). row f n ++ rest) (ap (λ (k : ℕ). drop k run) e ∙ drop-length run) ∙ append-nil (row f n)

  -- The same where it was filled up to a place that is known to be the end.
  pub start_end : (f : ℕ → A) (i : ℕ) (run now : List A) → now ≡ filled f 0 i run → (n : ℕ) → i ≡ n → n ≡ length run → now ≡ row f n
  start_end f i run now so_far n all whole = so_far ∙ filled_whole f i run (all ∙ whole) ∙ ap (row f) all

  -- A part that was lent and came back with these elements.
  pub part_laid : (at end : ℕ) (run part elements : List A) → part ≡ elements → length elements ≡ end - at → put_mid at (end - at) run part ≡ laid run at elements
  part_laid at end run part elements same l =
      ap₂ (λ (stretch rest : List A). take at run ++ (stretch ++ rest)) same (drop-drop (end - at) at run ∙ ap (λ (k : ℕ). drop (at + k) run) (sym l))
      ∙ sym (append_assoc (take at run) elements (drop (at + length elements) run))

  -- The elements of a run with a row laid into it: those of the row, and outside it those that were there.
  module _ (run : List A) (at : ℕ) (f : ℕ → A) (n : ℕ) (z : A) (h : at + n ≤ length run) where
    before_length : length (take at run) ≡ at
    before_length = length-take-le at run (omega arith)

    laid_parts : laid run at (row f n) ≡ take at run ++ (row f n ++ drop (at + n) run)
    laid_parts =
        append_assoc (take at run) (row f n) (drop (at + length (row f n)) run)
        ∙ ap (λ (k : ℕ). take at run ++ (row f n ++ drop (at + k) run)) (row_length f n)

    pub laid_within : (i : ℕ) → i < n → get_or (laid run at (row f n)) (at + i) z ≡ f i
    laid_within i l =
        ap₂ (λ (whole : List A) (k : ℕ). get_or whole (k + i) z) laid_parts (sym before_length)
        ∙ get_or-append-add (take at run) (row f n ++ drop (at + n) run) i z
        ∙ get_or-append (row f n) (drop (at + n) run) z i (omega (arith, row_length f n))
        ∙ row_at f n i z l

    pub laid_before : (i : ℕ) → i < at → get_or (laid run at (row f n)) i z ≡ get_or run i z
    laid_before i l =
        ap (λ (whole : List A). get_or whole i z) laid_parts
        ∙ get_or-append (take at run) (row f n ++ drop (at + n) run) z i (omega (arith, before_length))
        ∙ get_or-take at run i z l

    pub laid_behind : (i : ℕ) → at + n ≤ i → get_or (laid run at (row f n)) i z ≡ get_or run i z
    laid_behind i l =
        let place : i ≡ at + (n + (i - (at + n))) = omega arith in
        let same : at + n + (i - (at + n)) ≡ i = omega arith in
        ap₂ (λ (whole : List A) (k : ℕ). get_or whole k z) laid_parts (place ∙ ap (λ (k : ℕ). k + (n + (i - (at + n)))) (sym before_length))
        ∙ get_or-append-add (take at run) (row f n ++ drop (at + n) run) (n + (i - (at + n))) z
        ∙ ap (λ (k : ℕ). get_or (row f n ++ drop (at + n) run) (k + (i - (at + n))) z) (sym (row_length f n))
        ∙ get_or-append-add (row f n) (drop (at + n) run) (i - (at + n)) z
        ∙ get_or-drop (at + n) run (i - (at + n)) z
        ∙ ap (λ (k : ℕ). get_or run k z) same
