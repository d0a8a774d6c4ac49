-- The theorems `worked_sound`, `worked_range` and `worked_out`: what the code works out is the standard's recurrence, and it stops exactly where
-- one of those integers is out of its range.
use mathlib.Core.Path.{◌≡◌, refl, sym, ap, ap₂, ◌∙◌, subst}
use mathlib.Core.Bool.{Bool, true, false, ◌&&◌, cond}
use Prim.Native.Nat.{ℕ, zero, suc, ◌+◌, ◌-◌, ◌*◌, ◌≤◌, ◌<◌}
use native.Mathlib.Omega.{arith}
use borrow.Author.Tests.{ltb-true, ltb-false, leb-true, le-leb, lt-leb}
use lib.Dec.{ltb, leb}
use lib.IntN.{ℤ, pos, neg_ℤ, ◌+ℤ◌, ◌-ℤ◌, ◌*ℤ◌, +ℤ_assoc, +ℤ_comm, +ℤ_idl, neg_ℤ-+ℤ}
use Rattle.octets.specs.declared.Signed.{Signed}
use Rattle.octets.specs.Numbers.{whole, whole_of}
use Rattle.octets.proofs.Cases.{apart, split, both}
use Rattle.octets.proofs.Whole.{minus_less, minus_more}
use Rattle.doubles.specs.Doubles.{is_in_range}
use Rattle.std.specs.Prelude.{Option, Some, None}
use Rattle.values_group.specs.declared.Latest.{Latest}
use Rattle.values_group.specs.Group.{most_x, next}
use Rattle.section_7_layout.specs.declared.Differencing.{Differencing}
use Rattle.values_integers.specs.Integers.{integer}
use Rattle.values_integers.specs.Worked.{raised_by, lowered_by, worked}

-- Zmin is what it adds less what it takes away.
zmin_parts : (z : Signed) → whole z ≡ pos (raised_by z) -ℤ pos (lowered_by z)
zmin_parts z = by z.negative z.size
  where
    by : (negative : Bool) (size : ℕ) → whole_of negative size ≡ pos (cond negative 0 size) -ℤ pos (cond negative size 0)
    by true size = sym (+ℤ_idl (neg_ℤ (pos size)))
    by false size = ap pos (omega arith)

gathered : (s r n t k : ℤ) → s +ℤ (r +ℤ n) +ℤ t +ℤ k ≡ s +ℤ r +ℤ t +ℤ (k +ℤ n)
gathered s r n t k =
    ap (λ (w : ℤ). w +ℤ t +ℤ k) (sym (+ℤ_assoc s r n))
    ∙ ap (λ (w : ℤ). w +ℤ k) (+ℤ_assoc (s +ℤ r) n t ∙ ap (λ (w : ℤ). s +ℤ r +ℤ w) (+ℤ_comm n t) ∙ sym (+ℤ_assoc (s +ℤ r) t n))
    ∙ +ℤ_assoc (s +ℤ r +ℤ t) n k
    ∙ ap (λ (w : ℤ). s +ℤ r +ℤ t +ℤ w) (+ℤ_comm n k)

-- The next integer by the recurrence is the difference that the code takes.
difference : (z : Signed) (stored x before : ℕ) → pos stored +ℤ whole z +ℤ pos 2 *ℤ pos x -ℤ pos before ≡ pos (stored + raised_by z + 2 * x) -ℤ pos (before + lowered_by z)
difference z stored x before =
    ap (λ (w : ℤ). pos stored +ℤ w +ℤ pos (2 * x) -ℤ pos before) (zmin_parts z)
    ∙ gathered (pos stored) (pos (raised_by z)) (neg_ℤ (pos (lowered_by z))) (pos (2 * x)) (neg_ℤ (pos before))
    ∙ ap (λ (w : ℤ). pos (stored + raised_by z + 2 * x) +ℤ w) (sym (neg_ℤ-+ℤ (pos before) (pos (lowered_by z))))

-- That difference is out of its range where it is below zero, or more than the largest X.
below : (up down : ℕ) → up < down → is_in_range (pos up -ℤ pos down) ≡ false
below up down h =
    let more : up + suc (down - suc up) ≡ down = omega arith in
    ap (λ (n : ℕ). is_in_range (pos up -ℤ pos n)) (sym more) ∙ ap is_in_range (minus_more up (suc (down - suc up)))

above : (up down : ℕ) → down ≤ up → most_x < up - down → is_in_range (pos up -ℤ pos down) ≡ false
above up down h k = ap is_in_range (minus_less up down h) ∙ lt-leb (up - down) most_x k

-- What is kept is known by its two integers, and nothing is both kept and out.
same_kept : {kept latest : Latest} → Some kept ≡ Some latest → kept ≡ latest
same_kept e = cc

never : {A : Type 0} {latest : Latest} → None ≡ Some latest → A
never {A} {latest} e = apart cc

never_out : {A : Type 0} {latest : Latest} → Some latest ≡ None → A
never_out {A} {latest} e = apart cc

module _ (d : Differencing) (stored : ℕ → ℕ) where
  -- The two integers that are kept behind m more.
  pub record Kept (m : ℕ) (latest : Latest) : Type 0 where
    pub last : integer d stored (suc m) ≡ pos latest.x
    pub before : integer d stored m ≡ pos latest.before
    pub last_fits : latest.x ≤ most_x
    pub before_fits : latest.before ≤ most_x

  -- One more integer by the recurrence: `up` less `down`.
  abbrev up : ℕ → Latest → ℕ
  up m latest = stored (suc (suc m)) + raised_by d.zmin + 2 * latest.x

  abbrev down : Latest → ℕ
  down latest = latest.before + lowered_by d.zmin

  abbrev following : ℕ → Option Latest → Option Latest
  following m w = next (stored (suc (suc m)) + raised_by d.zmin) (lowered_by d.zmin) w

  more : {m : ℕ} {latest : Latest} → Kept m latest → integer d stored (suc (suc m)) ≡ pos (up m latest) -ℤ pos (down latest)
  unfolding integer
  more {m} {latest} k =
      ap₂ (λ (last before : ℤ). pos (stored (suc (suc m))) +ℤ whole d.zmin +ℤ pos 2 *ℤ last -ℤ before) k.last k.before
      ∙ difference d.zmin (stored (suc (suc m))) latest.x latest.before

  judged_kept : {m : ℕ} {latest after : Latest} → Kept m latest → following m (Some latest) ≡ Some after → Kept (suc m) after
  judged_kept {m} {latest} {after} k e =
      split (ltb (up m latest) (down latest)) (λ low. never (rw low at e))
      (λ high.
      split (ltb most_x (up m latest - down latest)) (λ large. never (rw (high, large) at e))
      (λ fits.
      subst (Kept (suc m)) (same_kept (rw (high, fits) at e)) (record {
        last = more k ∙ minus_less (up m latest) (down latest) (ltb-false (up m latest) (down latest) high);
        before = k.last;
        last_fits = ltb-false most_x (up m latest - down latest) fits;
        before_fits = k.last_fits;
      })))

  -- What is kept are the standard's integers, and they are in their range.
  pub worked_sound : (m : ℕ) {latest : Latest} → worked d stored m ≡ Some latest → Kept m latest
  unfolding worked integer
  worked_sound zero e =
      split (leb d.first most_x && leb d.second most_x)
      (λ fits.
      let tests = both (leb d.first most_x) (leb d.second most_x) fits in
      subst (Kept zero) (same_kept (rw fits at e)) (record {
        last = refl;
        before = refl;
        last_fits = leb-true d.second most_x tests.1;
        before_fits = leb-true d.first most_x tests.0;
      }))
      (λ fails. never (rw fails at e))
  worked_sound (suc m) {latest = after} e = by (λ latest h. worked_sound m h) (worked d stored m) refl e
    where
      by : ((latest : Latest) → worked d stored m ≡ Some latest → Kept m latest) → (w : Option Latest) → worked d stored m ≡ w → following m w ≡ Some after → Kept (suc m) after
      by sound (Some latest) h e = judged_kept (sound latest h) e
      by sound None h e = never e

  -- Where integers are kept, those before them were.
  kept_before : (m : ℕ) {after : Latest} → worked d stored (suc m) ≡ Some after → (latest : Latest) × (worked d stored m ≡ Some latest)
  unfolding worked
  kept_before m {after} e = by (worked d stored m) refl e
    where
      by : (w : Option Latest) → worked d stored m ≡ w → following m w ≡ Some after → (latest : Latest) × (worked d stored m ≡ Some latest)
      by (Some latest) h e = (latest, h)
      by None h e = never e

  fits : {z : ℤ} {x : ℕ} → z ≡ pos x → x ≤ most_x → is_in_range z ≡ true
  fits {z} {x} e h = ap is_in_range e ∙ le-leb x most_x h

  -- All integers up to those that are kept are in their range.
  pub worked_range : (m : ℕ) {latest : Latest} → worked d stored m ≡ Some latest → (j : ℕ) → j ≤ suc m → is_in_range (integer d stored j) ≡ true
  worked_range m e zero h = first m e
    where
      first : (m : ℕ) {latest : Latest} → worked d stored m ≡ Some latest → is_in_range (integer d stored zero) ≡ true
      first zero e = let k = worked_sound zero e in fits k.before k.before_fits
      first (suc m) e = first m (kept_before m e).1
  worked_range zero e (suc j) h =
      let k = worked_sound zero e in
      let only : j ≡ 0 = omega arith in
      subst (λ (i : ℕ). is_in_range (integer d stored (suc i)) ≡ true) (sym only) (fits k.last k.last_fits)
  worked_range (suc m) e (suc j) h =
      split (ltb j (suc m))
      (λ earlier. worked_range m (kept_before m e).1 (suc j) (omega (arith, ltb-true j (suc m) earlier)))
      (λ latest.
      let k = worked_sound (suc m) e in
      let only : j ≡ suc m = omega (arith, ltb-false j (suc m) latest) in
      subst (λ (i : ℕ). is_in_range (integer d stored (suc i)) ≡ true) (sym only) (fits k.last k.last_fits))

  -- An integer, no later than the last that was asked for, that is out of its range.
  pub record Beyond (m : ℕ) : Type 0 where
    pub which : ℕ
    pub asked : which ≤ suc m
    pub outside : is_in_range (integer d stored which) ≡ false

  judged_out : {m : ℕ} {latest : Latest} → Kept m latest → following m (Some latest) ≡ None → Beyond (suc m)
  judged_out {m} {latest} k e =
      split (ltb (up m latest) (down latest))
      (λ low. record {
        which = suc (suc m);
        asked = omega arith;
        outside = ap is_in_range (more k) ∙ below (up m latest) (down latest) (ltb-true (up m latest) (down latest) low);
      })
      (λ high.
      split (ltb most_x (up m latest - down latest))
      (λ large. record {
        which = suc (suc m);
        asked = omega arith;
        outside = ap is_in_range (more k)
            ∙ above (up m latest) (down latest) (ltb-false (up m latest) (down latest) high) (ltb-true most_x (up m latest - down latest) large);
      })
      (λ small. never_out (rw (high, small) at e)))

  -- Where nothing is kept, one of the standard's integers is out of its range.
  pub worked_out : (m : ℕ) → worked d stored m ≡ None → Beyond m
  unfolding worked integer
  worked_out zero e =
      split (leb d.first most_x)
      (λ one.
      split (leb d.second most_x) (λ two. never_out (rw (one, two) at e))
      (λ two. record { which = 1; asked = omega arith; outside = two }))
      (λ one. record { which = 0; asked = omega arith; outside = one })
  worked_out (suc m) e = by (λ h. worked_out m h) (worked d stored m) refl e
    where
      by : (worked d stored m ≡ None → Beyond m) → (w : Option Latest) → worked d stored m ≡ w → following m w ≡ None → Beyond (suc m)
      by earlier (Some latest) h e = judged_out (worked_sound m h) e
      by earlier None h e = let b = earlier h in record { which = b.which; asked = omega (arith, b.asked); outside = b.outside }
