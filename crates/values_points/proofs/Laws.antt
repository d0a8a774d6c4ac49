-- The points that integers are written to: one by one, one stretch behind another, and as part of a field. What is written leaves nothing open.
use mathlib.Core.Path.{◌≡◌, refl, sym, ap, ap₂, ◌∙◌}
use Prim.Native.Nat.{ℕ, zero, suc, ◌+◌, ◌-◌, ◌≤◌, ◌<◌}
use native.Mathlib.Numerals.{add-one}
use native.Mathlib.Omega.{arith}
use borrow.Author.Tests.{ltb-true, ltb-false}
use lib.Dec.{ltb}
use lib.ListN.{length, set}
use Rattle.octets.proofs.Cases.{split}
use Rattle.laws_rows.specs.Rows.{filled}
use Rattle.laws_rows.proofs.Laws.{filled_length, filled_next, filled_same, filled_on}
use Rattle.doubles.specs.declared.Packing.{Packing}
use Rattle.doubles.specs.Doubles.{rebuilt}
use Rattle.values_points.specs.Points.{point_value, double_at}
use Rattle.values_points.specs.Written.{Marks, Runs, runs, WrittenPast, Written}

-- Two numbers of which neither is less are the same.
pub neither_less : (i j : ℕ) → (i < j → ⊥) → (j < i → ⊥) → i ≡ j
neither_less i j first second =
    split (ltb i j) (λ less. absurd (first (ltb-true i j less)))
    (λ not. split (ltb j i) (λ more. absurd (second (ltb-true j i more))) (λ same. omega (arith, ltb-false i j not, ltb-false j i same)))

-- Any two outcomes of writing so many integers are the same.
pub written_determined : {m : Marks} {p : Packing} {x : ℕ → ℕ} {count point next next' : ℕ} {a b b' : Runs} →
    Written m p x count point next a b → Written m p x count point next' a b' → (next ≡ next') × (b ≡ b')
written_determined {m} {p} {x} {count} {point} {next} {next'} {a} {b} {b'} w v =
    let same : next ≡ next' =
    neither_less next next' (λ less. omega (arith, v.least next w.past.onward less, w.past.used))
    (λ less. omega (arith, w.least next' v.past.onward less, v.past.used)) in
    let doubles : b.doubles ≡ b'.doubles =
    w.past.doubles ∙ ap (λ (n : ℕ). filled (double_at p x m.mark (λ i. m.rank i - m.rank point)) point (n - point) a.doubles) same ∙ sym v.past.doubles in
    let marks : b.marks ≡ b'.marks = w.past.marks ∙ ap (λ (n : ℕ). filled m.mark point (n - point) a.marks) same ∙ sym v.past.marks in
    (same, ap₂ runs doubles marks)

module _ (m : Marks) (step : (i : ℕ) → m.rank (i + 1) ≡ m.rank i + m.mark i) where
  -- More points have no fewer present.
  pub rank_mono : {i : ℕ} (j : ℕ) → i ≤ j → m.rank i ≤ m.rank j
  rank_mono {i} zero h = let none : i ≡ 0 = omega arith in rw none (omega arith)
  rank_mono {i} (suc j) h =
      split (ltb i (suc j))
      (λ fewer. omega (arith, rank_mono {i = i} j (omega (arith, ltb-true i (suc j) fewer)), step j, ap m.rank (add-one j)))
      (λ all. let same : i ≡ suc j = omega (arith, ltb-false i (suc j) all) in rw same (omega arith))

  -- Where fewer points are present before i than before the end, i is before the end.
  pub rank_below : {i : ℕ} (end : ℕ) → m.rank i < m.rank end → i < end
  rank_below {i} end h = split (ltb i end) (λ below. ltb-true i end below) (λ behind. absurd (omega (arith, rank_mono {i = end} i (ltb-false i end behind))))

  module _ (p : Packing) (x : ℕ → ℕ) where
    -- At the first point nothing is written yet.
    pub written_none : (point : ℕ) (a : Runs) → point ≤ length a.doubles → Written m p x 0 point point a a
    unfolding filled
    written_none point a h =
        let none : point - point ≡ 0 = omega arith in
        record {
          past =
              record {
                onward = omega arith;
                within = h;
                used = omega arith;
                doubles = sym (ap (λ (n : ℕ). filled (double_at p x m.mark (λ i. m.rank i - m.rank point)) point n a.doubles) none);
                marks = sym (ap (λ (n : ℕ). filled m.mark point n a.marks) none);
              };
          least = λ i l k. absurd (omega arith);
        }

    module _ {count point i : ℕ} {a b : Runs} (w : WrittenPast m p x count point i a b) (h : i < length a.doubles) where
      -- A present point, with the next integer.
      pub written_present : {y : ℕ} → m.mark i ≡ 1 → y ≡ x count
          → Written m p x (count + 1) point (i + 1) a (runs (set b.doubles i (rebuilt p y)) (set b.marks i 1))
      written_present {y} e same =
          let before : count ≡ m.rank i - m.rank point = omega (arith, w.used) in
          record {
            past =
                record {
                  onward = omega (arith, w.onward);
                  within = omega arith;
                  used = omega (arith, w.used, step i);
                  doubles =
                      filled_next (double_at p x m.mark (λ i. m.rank i - m.rank point)) point i a.doubles b.doubles w.onward w.doubles
                      (ap (rebuilt p) (same ∙ ap x before) ∙ sym (ap (λ (k : ℕ). point_value p k (x (m.rank i - m.rank point))) e));
                  marks = filled_next m.mark point i a.marks b.marks w.onward w.marks (sym e);
                };
            least = λ j l k. omega (arith, w.used, rank_mono {i = j} i (omega arith));
          }

  -- What is written is the part of one field: integers that are the field's own, from the first of these points on.
  pub written_field : (p : Packing) (x field : ℕ → ℕ) {count point next : ℕ} {a b : Runs} → WrittenPast m p x count point next a b →
      ((k : ℕ) → k < count → x k ≡ field (m.rank point + k)) → b.doubles ≡ filled (double_at p field m.mark m.rank) point (next - point) a.doubles
  written_field p x field {count} {point} {next} {a} w same =
      w.doubles ∙ filled_same (double_at p x m.mark (λ i. m.rank i - m.rank point)) (double_at p field m.mark m.rank) point (next - point) a.doubles each
    where
      value : (i k : ℕ) → m.mark i ≡ k → point ≤ i → i < point + (next - point) → point_value p k (x (m.rank i - m.rank point)) ≡ point_value p k (field (m.rank i))
      value i zero e h l = refl
      value i (suc k) e h l =
          let inside : m.rank i - m.rank point < count = omega (arith, w.used, w.onward, rank_mono {i = point} i h, rank_mono {i = i + 1} next (omega (arith, w.onward)), step i) in
          let place : m.rank point + (m.rank i - m.rank point) ≡ m.rank i = omega (arith, rank_mono {i = point} i h) in
          ap (rebuilt p) (same (m.rank i - m.rank point) inside ∙ ap field place)

      each : (i : ℕ) → point ≤ i → i < point + (next - point) → double_at p x m.mark (λ j. m.rank j - m.rank point) i ≡ double_at p field m.mark m.rank i
      each i h l = value i (m.mark i) refl h l

  -- The runs are as long as they were.
  pub past_lengths : {p : Packing} {x : ℕ → ℕ} {count point next : ℕ} {a b : Runs} → WrittenPast m p x count point next a b →
      (length b.doubles ≡ length a.doubles) × (length b.marks ≡ length a.marks)
  past_lengths {p} {x} {count} {point} {next} {a} w = (
    ap length w.doubles ∙ filled_length (double_at p x m.mark (λ i. m.rank i - m.rank point)) point (next - point) a.doubles,
    ap length w.marks ∙ filled_length m.mark point (next - point) a.marks,
  )

  -- Integers that are the same by another name.
  pub past_same : (p : Packing) (x y : ℕ → ℕ) {count point next : ℕ} {a b : Runs} → WrittenPast m p x count point next a b → ((k : ℕ) → k < count → x k ≡ y k) →
      WrittenPast m p y count point next a b
  past_same p x y {count} {point} {next} {a} w same =
      let from : ℕ → ℕ = λ (k : ℕ). y (k - m.rank point) in
      let place : (k : ℕ) → m.rank point + k - m.rank point ≡ k = λ k. omega arith in
      record {
        onward = w.onward;
        within = w.within;
        used = w.used;
        doubles = written_field p x from w (λ k l. same k l ∙ ap y (sym (place k)));
        marks = w.marks;
      }

  -- Integers that are written behind others, and missing points behind either.
  pub past_then : (p : Packing) (x y : ℕ → ℕ) {count more point i next : ℕ} {a b c : Runs} →
      WrittenPast m p x count point i a b → WrittenPast m p y more i next b c → ((k : ℕ) → k < more → y k ≡ x (count + k)) →
      WrittenPast m p x (count + more) point next a c
  past_then p x y {count} {more} {point} {i} {next} {a} {b} {c} w v same =
      let x-from : ℕ → ℕ = λ (k : ℕ). x (k - m.rank point) in
      let given : (k : ℕ) → k < more → y k ≡ x (m.rank i + k - m.rank point) = λ k l. let place : count + k ≡ m.rank i + k - m.rank point = omega (arith, w.used) in same k l ∙ ap x place in
      let length-same = (past_lengths w).0 in
      record {
        onward = omega (arith, w.onward, v.onward);
        within = omega (arith, v.within);
        used = omega (arith, w.used, v.used);
        doubles =
            filled_on (double_at p x-from m.mark m.rank) point a.doubles b.doubles c.doubles w.onward v.onward w.doubles (written_field p y x-from v given);
        marks = filled_on m.mark point a.marks b.marks c.marks w.onward v.onward w.marks v.marks;
      }

  -- Integers that are written behind others.
  pub written_then : (p : Packing) (x y : ℕ → ℕ) {count more point i next : ℕ} {a b c : Runs} →
      Written m p x count point i a b → Written m p y more i next b c → ((k : ℕ) → k < more → y k ≡ x (count + k)) → Written m p x (count + more) point next a c
  written_then p x y {count} {more} {point} {i} {next} w v same = record { past = past_then p x y w.past v.past same; least = least }
    where
      least : (j : ℕ) → point ≤ j → j < next → m.rank j < m.rank point + (count + more)
      least j l k =
          split (ltb j i) (λ before. omega (arith, w.least j l (ltb-true j i before)))
          (λ behind. omega (arith, w.past.used, v.least j (ltb-false j i behind) k))
