-- One turn of a loop over a group's packed numbers: where the reader stands, and what the next of them give.
use Rattle.std.proofs.Common.{◌≡◌, ℕ, suc, ◌+◌, ◌*◌, ◌%◌, ◌<◌, ◌≤◌, true, ltb, List, get_or, sym, refl, ap, ◌∙◌, ap₂, add-mul, one-mul, add-one, add-zero, arith, ltb-false}
use Rattle.std.specs.Prelude.{Option, Some, None, is_some}
use lib.Bits.{bit_or}
use Rattle.octets.proofs.Cases.{apart, split}
use Rattle.bits.specs.Bits.{bits_at}
use Rattle.bits.specs.Fours.{numbers_at}
use Rattle.bits.proofs.Fours.{number_of_several}
use Rattle.bits_reader.specs.declared.BitReader.{BitReader}
use Rattle.values_group.specs.declared.Group as declared
use Rattle.values_group.specs.declared.Latest.{Latest}
use Rattle.values_group.specs.Group.{most_x, worked_by, last_of, integers_of, Limits, GroupKept, Gains, wrapped, followed_by, Follows}
use Rattle.values_group.proofs.Steps.{out_later}
use Rattle.values_group.proofs.Wrapped.{Course, course_of, number_by, tested, tested_by, integer_by, unless_seen, tested_in, tested_out, one_seen, worked_tested, tested_kept}

-- The reader stands at the packed number k.
pub record Stands (s : Course) (k : ℕ) (reader : BitReader) : Type 0 where
  pub run : reader.run.now ≡ s.run
  pub place : reader.at.0 ≡ s.from + k * s.width

-- A reader that starts where the numbers do stands at the first.
pub stands_first : (s : Course) {reader : BitReader} → reader.run.now ≡ s.run → reader.at.0 ≡ s.from → Stands s 0 reader
stands_first s run place = record { run = run; place = omega (arith, place) }

-- It reads that number, and behind k numbers this is kept.
pub record Packed (s : Course) (k packed : ℕ) : Type 0 where
  pub same : packed ≡ number_by s k

pub record Reached (s : Course) (k : ℕ) (w : Option Latest) : Type 0 where
  pub kept : tested_by s k ≡ w

pub none_reached : (s : Course) → Reached s 0 (Some s.latest)
unfolding tested_by
none_reached s = record { kept = refl }

-- An integer in its range has 31 bits, and one that is kept is in its range.
own_remainder : {x : ℕ} → x ≤ most_x → x % 2147483648 ≡ x
own_remainder h = omega arith

tested_tells : (packed gain : ℕ) (latest : Latest) → is_some (tested packed gain (Some latest)) ≡ true →
    (wrapped packed gain latest ≤ most_x) × (tested packed gain (Some latest) ≡ Some (followed_by (wrapped packed gain latest) latest))
tested_tells packed gain latest e =
    split (ltb most_x (wrapped packed gain latest)) (λ out. apart (cc (rw out at e)))
    (λ inside. (ltb-false most_x (wrapped packed gain latest) inside, rw inside refl))

module _ {s : Course} where
  -- The reader goes on, by some numbers.
  pub stands_on : {k : ℕ} {reader after : BitReader} → Stands s k reader → after.run ≡ reader.run → (n : ℕ) {j : ℕ} → after.at.0 ≡ reader.at.0 + n * s.width → k + n ≡ j → Stands s j after
  stands_on {k} stands same n place counted = record {
    run = ap (λ r. r.now) same ∙ stands.run;
    place = omega (arith, place, stands.place, add-mul k n s.width, ap (λ (m : ℕ). m * s.width) counted);
  }

  pub stands_behind : {k : ℕ} {reader after : BitReader} → Stands s k reader → after.run ≡ reader.run → after.at.0 ≡ reader.at.0 + s.width → Stands s (k + 1) after
  stands_behind stands same place = stands_on stands same 1 (omega (arith, place, one-mul s.width)) refl

  -- The number that it stands at, and four of them.
  number_at : {k : ℕ} {reader : BitReader} → Stands s k reader → (n : ℕ) {at : ℕ} → at ≡ reader.at.0 + n * s.width →
      bits_at reader.run.now at s.width ≡ number_by s (k + n)
  number_at {k} stands n {at} there =
      let place : at ≡ s.from + (k + n) * s.width = omega (arith, there, stands.place, add-mul k n s.width) in
      ap₂ (λ (run : List ℕ) (i : ℕ). bits_at run i s.width) stands.run place

  pub packed_one : {k : ℕ} {reader : BitReader} {packed : ℕ} → Stands s k reader → packed ≡ bits_at reader.run.now reader.at.0 s.width → Packed s k packed
  packed_one {k} stands read = record { same = read ∙ number_at stands 0 (omega arith) ∙ ap (number_by s) (add-zero k) }

  pub packed_four : {k : ℕ} {reader : BitReader} (numbers : List ℕ) → Stands s k reader → numbers ≡ numbers_at reader.run.now reader.at.0 s.width 4 →
      Packed s k (get_or numbers 0 0) × Packed s (k + 1) (get_or numbers 1 0) × Packed s (k + 1 + 1) (get_or numbers 2 0) × Packed s (k + 1 + 1 + 1) (get_or numbers 3 0)
  packed_four {k} {reader} numbers stands four =
      (number 0 (omega arith) (omega arith), number 1 (omega arith) refl, number 2 (omega arith) (omega arith), number 3 (omega arith) (omega arith))
    where
      number : (n : ℕ) → n < 4 → {j : ℕ} → k + n ≡ j → Packed s j (get_or numbers n 0)
      number n h counted = record {
        same = ap (λ (all : List ℕ). get_or all n 0) four
            ∙ number_of_several reader.run.now reader.at.0 s.width 4 n h
            ∙ number_at stands n refl
            ∙ ap (number_by s) counted;
      }

  -- One number more: its integer is judged, known to be in its range, or seen with those before it.
  pub one_tested : {k packed : ℕ} {w : Option Latest} → Reached s k w → Packed s k packed → Reached s (k + 1) (tested packed s.gain w)
  unfolding tested_by
  one_tested {k} reached read = record {
    kept = ap (tested_by s) (add-one k) ∙ ap₂ (λ (n : ℕ) (v : Option Latest). tested n s.gain v) (sym read.same) reached.kept;
  }

  pub one_inside : {k packed x : ℕ} {latest after : Latest} → Reached s k (Some latest) → Packed s k packed → Follows packed s.gain latest x after → x ≤ most_x →
      Reached s (k + 1) (Some after)
  one_inside {packed = packed} {latest = latest} reached read follows fits = record {
    kept = (one_tested reached read).kept ∙ sym (tested_in packed s.gain latest follows.value fits) ∙ ap Some (sym follows.last);
  }

  pub one_outside : {k packed x : ℕ} {latest after : Latest} → Reached s k (Some latest) → Packed s k packed → Follows packed s.gain latest x after → most_x < x →
      Reached s (k + 1) None
  one_outside {packed = packed} {latest = latest} reached read follows out = record {
    kept = (one_tested reached read).kept ∙ sym (tested_out packed s.gain latest follows.value out);
  }

  pub one_seen_more : (seen : ℕ) {k packed x : ℕ} {latest after : Latest} → Reached s k (unless_seen seen latest) → Packed s k packed → Follows packed s.gain latest x after →
      Reached s (k + 1) (unless_seen (bit_or seen x) after)
  one_seen_more seen {packed = packed} {x} {latest} reached read follows = record {
    kept = (one_tested reached read).kept ∙ sym (one_seen packed s.gain seen latest follows.value) ∙ ap (unless_seen (bit_or seen x)) (sym follows.last);
  }

  -- One number more, where its integer is known to be kept: that is the integer, and has 31 bits.
  pub one_kept : {k packed x : ℕ} {latest after : Latest} → Reached s k (Some latest) → Packed s k packed → Follows packed s.gain latest x after →
      is_some (tested_by s (k + 1)) ≡ true → Reached s (k + 1) (Some after) × (x % 2147483648 ≡ integer_by s k)
  one_kept {k} {packed} {x} {latest} {after} reached read follows known =
      let told = tested_tells packed s.gain latest (ap is_some (sym (one_tested reached read).kept) ∙ known) in
      let fits : x ≤ most_x = omega (arith, follows.value, told.0) in
      let next = one_inside reached read follows fits in
      (next, own_remainder fits ∙ ap (λ (l : Latest). l.x) (sym follows.last) ∙ ap last_of (sym next.kept) ∙ ap (λ (n : ℕ). last_of (tested_by s n)) (add-one k))

  -- Four numbers more, whose integers are seen together.
  pub four_seen_more : (seen : ℕ) {k one two three last : ℕ} {latest l1 l2 l3 after : Latest} {reader : BitReader} (numbers : List ℕ) → Stands s k reader →
      numbers ≡ numbers_at reader.run.now reader.at.0 s.width 4 → Reached s k (unless_seen seen latest) →
      Follows (get_or numbers 0 0) s.gain latest one l1 → Follows (get_or numbers 1 0) s.gain l1 two l2 →
      Follows (get_or numbers 2 0) s.gain l2 three l3 → Follows (get_or numbers 3 0) s.gain l3 last after →
      Reached s (k + 1 + 1 + 1 + 1) (unless_seen (bit_or (bit_or (bit_or (bit_or seen one) two) three) last) after)
  four_seen_more seen {one = one} {two} {three} numbers stands four reached f1 f2 f3 f4 =
      let read = packed_four numbers stands four in
      let three_seen = one_seen_more (bit_or (bit_or seen one) two) (one_seen_more (bit_or seen one) (one_seen_more seen reached read.0 f1) read.1 f2) read.2 f3 in
      one_seen_more (bit_or (bit_or (bit_or seen one) two) three) three_seen read.3 f4

  -- The same, counted in another way.
  pub reached_as : {k j : ℕ} {w : Option Latest} → Reached s k w → k ≡ j → Reached s j w
  reached_as reached counted = record { kept = ap (tested_by s) (sym counted) ∙ reached.kept }

-- What is kept behind the last number is what the group keeps, and behind an integer out of its range nothing is.
module _ {run : List ℕ} {g : declared.Group} {gain : ℕ} {latest : Latest} {k : ℕ} {w : Option Latest}
    (sizes : Limits g latest) (gains : Gains gain g.base g.lowered) (reached : Reached (course_of run g gain latest) k w) where
  pub reached_worked : {all : ℕ} → k ≡ all → w ≡ worked_by run g (Some latest) all
  reached_worked same =
      sym reached.kept ∙ sym (worked_tested run g gain sizes gains k) ∙ ap (worked_by run g (Some latest)) same

  pub reached_out : w ≡ None → {all : ℕ} → k ≤ all → None ≡ worked_by run g (Some latest) all
  reached_out out {all} h = out_later run g (Some latest) all h (sym (reached_worked refl) ∙ out)

-- One number more of a group whose integers are known to be kept, and four more: the last 31 bits of each are its integer.
module _ (run : List ℕ) (g : declared.Group) (gain : ℕ) (latest : Latest) (all : ℕ)
    (sizes : Limits g latest) (gains : Gains gain g.base g.lowered) (kept : GroupKept run g latest all) where
  abbrev s : Course
  s = course_of run g gain latest

  pub one_put : {k packed x : ℕ} {last after : Latest} → Reached s k (Some last) → Packed s k packed → Follows packed gain last x after → k < all →
      Reached s (k + 1) (Some after) × (x % 2147483648 ≡ integers_of run g latest k)
  one_put {k} reached read follows more =
      let told = one_kept reached read follows (tested_kept run g gain sizes gains kept (k + 1) (omega arith)) in
      (told.0, told.1 ∙ sym (ap last_of (worked_tested run g gain sizes gains (suc k))))

  pub four_put : {k x1 x2 x3 x4 : ℕ} {last l1 l2 l3 after : Latest} {reader : BitReader} (numbers : List ℕ) → Stands s k reader →
      numbers ≡ numbers_at reader.run.now reader.at.0 g.width 4 → Reached s k (Some last) → k + 4 ≤ all →
      Follows (get_or numbers 0 0) gain last x1 l1 → Follows (get_or numbers 1 0) gain l1 x2 l2 → Follows (get_or numbers 2 0) gain l2 x3 l3 →
      Follows (get_or numbers 3 0) gain l3 x4 after →
      Reached s (k + 4) (Some after) × (x1 % 2147483648 ≡ integers_of run g latest k) × (x2 % 2147483648 ≡ integers_of run g latest (k + 1))
      × (x3 % 2147483648 ≡ integers_of run g latest (k + 2)) × (x4 % 2147483648 ≡ integers_of run g latest (k + 3))
  four_put {k} numbers stands four reached more f1 f2 f3 f4 =
      let read = packed_four {s = s} numbers stands four in
      let p1 = one_put reached read.0 f1 (omega arith) in
      let p2 = one_put p1.0 read.1 f2 (omega arith) in
      let p3 = one_put p2.0 read.2 f3 (omega arith) in
      let p4 = one_put p3.0 read.3 f4 (omega arith) in
      let at = λ (j : ℕ). integers_of run g latest j in
      let two : k + 1 + 1 ≡ k + 2 = omega arith in
      let three : k + 1 + 1 + 1 ≡ k + 3 = omega arith in
      (reached_as p4.0 (omega arith), p1.1, p2.1, p3.1 ∙ ap at two, p4.1 ∙ ap at three)
