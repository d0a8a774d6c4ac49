-- One turn of a loop over a group's packed numbers that keeps the largest integer so far, and what the whole group gives.
use mathlib.Core.Path.{◌≡◌, refl, sym, ap, ap₂, ◌∙◌, subst}
use mathlib.Core.List.{List}
use Prim.Native.Nat.{ℕ, suc, ◌+◌, ◌-◌, ◌≤◌, ◌<◌}
use native.Mathlib.Numerals.{add-one}
use native.Mathlib.Omega.{arith}
use borrow.Author.Tests.{ltb-true, ltb-false, lt-ltb, le-ltb}
use lib.Dec.{ltb}
use lib.ListN.{get_or}
use Rattle.std.specs.Prelude.{max, Option, Some, None}
use Rattle.octets.proofs.Cases.{apart, split}
use Rattle.bits.specs.Fours.{numbers_at}
use Rattle.bits_reader.specs.declared.BitReader.{BitReader}
use Rattle.values_group.specs.declared.Group.{Group}
use Rattle.values_group.specs.declared.Latest.{Latest}
use Rattle.values_group.specs.Group.{most_x, worked_by, last_of, integers_of, Limits, Gains, wrapped, followed_by, Follows, behind}
use Rattle.values_group.proofs.Wrapped.{Course, course_of, tested, tested_by, integer_by, unless_seen, tested_out, tested_in, worked_tested}
use Rattle.values_group.proofs.Turns.{Stands, Packed, Reached, reached_as, none_reached, packed_four, one_tested, reached_worked}
use Rattle.values_group.proofs.Steps.{out_later}
use Rattle.values_group.proofs.Left.{Ranged, worked_fits, behind_all, behind_integer, limits_on}
use Rattle.values_largest.specs.declared.Seen.{Seen}
use Rattle.values_largest.specs.Largest.{largest_from, with_largest, seen_by}
use Rattle.values_largest.proofs.Laws.{largest_next, largest_within, largest_same, largest_joined}

-- One integer more is looked at: where the largest shows that one was out of its range, that is as good as a test of each.
one_larger : {r : ℕ} (packed gain largest : ℕ) (latest : Latest) → r ≡ wrapped packed gain latest →
    unless_seen (max r largest) (followed_by r latest) ≡ tested packed gain (unless_seen largest latest)
one_larger {r} packed gain largest latest e =
    split (ltb most_x largest)
    (λ out. rw (out, lt-ltb most_x (max r largest) (omega (arith, ltb-true most_x largest out))) refl)
    (λ inside.
    split (ltb most_x r)
    (λ large. rw (inside, lt-ltb most_x (max r largest) (omega (arith, ltb-true most_x r large))) (tested_out packed gain latest e (ltb-true most_x r large)))
    (λ small.
    rw (inside, le-ltb most_x (max r largest) (omega (arith, ltb-false most_x largest inside, ltb-false most_x r small)))
    (tested_in packed gain latest e (ltb-false most_x r small))))

-- Behind k numbers the last two integers are kept, unless the largest shows that one was out of its range. While none was, the largest is that of the integers so
-- far and of what was found before them.
pub record Looked (s : Course) (found k : ℕ) (latest : Latest) (largest : ℕ) : Type 0 where
  pub reached : Reached s k (unless_seen largest latest)
  pub most : largest ≤ most_x → largest ≡ largest_from found (integer_by s) k

-- At the start nothing is looked at.
pub none_looked : (s : Course) {found : ℕ} → found ≤ most_x → Looked s found 0 s.latest found
unfolding largest_from
none_looked s {found} h = record { reached = rw (le-ltb most_x found h) (none_reached s); most = λ _. refl }

module _ {s : Course} {found : ℕ} where
  -- The same, said in other words.
  pub looked_as : {k j largest most : ℕ} {latest : Latest} → Looked s found k latest largest → k ≡ j → most ≡ largest → Looked s found j latest most
  looked_as {j = j} {latest = latest} looked counted same =
      subst (Looked s found j latest) (sym same) (record {
        reached = reached_as looked.reached counted;
        most = λ h. looked.most h ∙ ap (largest_from found (integer_by s)) counted;
      })

  -- One number more.
  pub one_looked : {k largest packed r : ℕ} {latest after : Latest} → Looked s found k latest largest → Packed s k packed → Follows packed s.gain latest r after →
      Looked s found (k + 1) after (max r largest)
  one_looked {k} {largest} {packed} {r} {latest} {after} looked read follows =
      let next = (one_tested looked.reached read).kept ∙ sym (one_larger packed s.gain largest latest follows.value) ∙ ap (unless_seen (max r largest)) (sym follows.last) in
      record {
        reached = record { kept = next };
        most =
            λ h.
            let kept : unless_seen (max r largest) after ≡ Some after = rw (le-ltb most_x (max r largest) h) in
            let integer : integer_by s k ≡ r = ap (λ (n : ℕ). last_of (tested_by s n)) (sym (add-one k)) ∙ ap last_of (next ∙ kept) ∙ ap (λ (l : Latest). l.x) follows.last in
            let before = looked.most (omega (arith, h)) in
            let both : max r largest ≡ max (largest_from found (integer_by s) k) (integer_by s k) = omega (arith, integer, before) in
            both ∙ sym (largest_next found (integer_by s) k refl);
      }

  -- Four numbers more.
  pub four_looked : {k largest x1 x2 x3 x4 : ℕ} {latest l1 l2 l3 after : Latest} {reader : BitReader} (numbers : List ℕ) → Stands s k reader →
      numbers ≡ numbers_at reader.run.now reader.at.0 s.width 4 → Looked s found k latest largest →
      Follows (get_or numbers 0 0) s.gain latest x1 l1 → Follows (get_or numbers 1 0) s.gain l1 x2 l2 →
      Follows (get_or numbers 2 0) s.gain l2 x3 l3 → Follows (get_or numbers 3 0) s.gain l3 x4 after →
      Looked s found (k + 4) after (max x4 (max x3 (max x2 (max x1 largest))))
  four_looked numbers stands four looked f1 f2 f3 f4 =
      let read = packed_four {s = s} numbers stands four in
      looked_as (one_looked (one_looked (one_looked (one_looked looked read.0 f1) read.1 f2) read.2 f3) read.3 f4) (omega arith) refl

-- What is kept with its largest tells both, and nothing is kept where one is out of its range.
pub kept_told : (w : Option Latest) {most : ℕ} {seen : Seen} → with_largest w most ≡ Some seen → (w ≡ Some seen.latest) × (most ≡ seen.largest)
kept_told (Some latest) {most} {seen} e =
    let same : ◌≡◌ {A = Seen} (record { latest = latest; largest = most }) seen = cc in (ap (λ (s : Seen). Some s.latest) same, ap (λ (s : Seen). s.largest) same)
kept_told None {most} {seen} e = apart cc

pub out_told : (w : Option Latest) (most : ℕ) → with_largest w most ≡ None → w ≡ None
out_told (Some latest) most e = apart cc
out_told None most e = refl

-- So is what is made of both.
seen_kept : {w : Option Latest} {most largest : ℕ} {latest : Latest} → w ≡ Some latest → largest ≡ most → Some (record { latest = latest; largest = largest }) ≡ with_largest w most
seen_kept {w} {most} {largest} {latest} kept same =
    ap (λ (n : ℕ). Some (record { latest = latest; largest = n })) same ∙ sym (ap (λ (v : Option Latest). with_largest v most) kept)

seen_out : {w : Option Latest} (most : ℕ) → w ≡ None → None ≡ with_largest w most
seen_out most out = sym (ap (λ (v : Option Latest). with_largest v most) out)

last_within : (w : Option Latest) → Ranged w → last_of w ≤ most_x
last_within (Some latest) h = h.0
last_within None h = omega arith

module _ (run : List ℕ) (g : Group) (from : Seen) (sizes : Limits g from.latest) where
  abbrev integers : ℕ → ℕ
  integers = integers_of run g from.latest

  -- The largest of what a group keeps is in its range.
  pub group_within : from.largest ≤ most_x → (n : ℕ) → largest_from from.largest integers n ≤ most_x
  group_within h n =
      largest_within integers h
      (λ k. last_within (worked_by run g (Some from.latest) (suc k)) (worked_fits run g (Some from.latest) (sizes.of_last, sizes.of_before) (suc k)))
      n

  module _ {gain : ℕ} (gains : Gains gain g.base g.lowered) {k largest all : ℕ} {latest : Latest}
      (looked : Looked (course_of run g gain from.latest) from.largest k latest largest) (counted : k ≡ all) where
    -- What is found behind the last number is what the group gives.
    pub looked_out : most_x < largest → None ≡ seen_by run g from all
    looked_out h =
        let out : unless_seen largest latest ≡ None = rw (lt-ltb most_x largest h) in
        seen_out (largest_from from.largest integers all) (sym (reached_worked sizes gains looked.reached counted) ∙ out)

    pub looked_kept : largest ≤ most_x → Some (record { latest = latest; largest = largest }) ≡ seen_by run g from all
    looked_kept h =
        let kept : unless_seen largest latest ≡ Some latest = rw (le-ltb most_x largest h) in
        let s = course_of run g gain from.latest in
        seen_kept (sym (reached_worked sizes gains looked.reached counted) ∙ kept)
        (looked.most h
        ∙ ap (largest_from from.largest (integer_by s)) counted
        ∙ largest_same from.largest (integer_by s) integers all (λ j _. sym (ap last_of (worked_tested run g gain sizes gains (suc j)))))

module _ (run : List ℕ) (g : Group) (from : Seen) (k : ℕ) where
  -- Where one of its first numbers is out of its range, so is one of all.
  pub out_joined : {n : ℕ} → None ≡ seen_by run g from k → k ≤ n → None ≡ seen_by run g from n
  out_joined {n} out few =
      let told = out_told (worked_by run g (Some from.latest) k) (largest_from from.largest (integers_of run g from.latest) k) (sym out) in
      seen_out (largest_from from.largest (integers_of run g from.latest) n) (sym (out_later run g (Some from.latest) n few told))

  module _ {seen : Seen} (answered : Some seen ≡ seen_by run g from k) where
    told : (worked_by run g (Some from.latest) k ≡ Some seen.latest) × (largest_from from.largest (integers_of run g from.latest) k ≡ seen.largest)
    told = kept_told (worked_by run g (Some from.latest) k) (sym answered)

    -- The group goes on within its sizes, and with a largest that is in its range.
    pub seen_limits : Limits g from.latest → Limits g seen.latest
    seen_limits sizes = limits_on run g from.latest k told.0 sizes

    pub seen_within : Limits g from.latest → from.largest ≤ most_x → seen.largest ≤ most_x
    seen_within sizes h = subst (λ (n : ℕ). n ≤ most_x) told.1 (group_within run g from sizes h k)

    -- What is left of it, behind what its first numbers gave, gives what the group does.
    pub seen_joined : {n : ℕ} → k ≤ n → seen_by run (behind g k) seen (n - k) ≡ seen_by run g from n
    seen_joined {n} few =
        let f : ℕ → ℕ = integers_of run g from.latest in
        let rest : ℕ → ℕ = integers_of run (behind g k) seen.latest in
        let all : k + (n - k) ≡ n = omega arith in
        let most : largest_from seen.largest rest (n - k) ≡ largest_from from.largest f n =
        ap (λ (m : ℕ). largest_from m rest (n - k)) (sym told.1)
        ∙ largest_same (largest_from from.largest f k) rest (λ j. f (k + j)) (n - k) (λ j _. behind_integer run g from.latest k told.0 j)
        ∙ largest_joined from.largest f k (n - k)
        ∙ ap (largest_from from.largest f) all in
        ap₂ with_largest (behind_all run g from.latest k told.0 few) most
