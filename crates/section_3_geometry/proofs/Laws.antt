-- The laws of a grid that others cite: what is known of one that is taken, and that latitudes are ordered by their distance from the north pole.
use mathlib.Core.Path.{◌≡◌, sym, ap, ◌∙◌}
use mathlib.Core.Bool.{Bool, true, false}
use mathlib.Core.Logic.{◌↔◌}
use Prim.Native.Nat.{ℕ, zero, suc, ◌-◌, ◌≤◌}
use native.Mathlib.Omega.{arith}
use lib.Dec.{leb→le, le→leb}
use lib.IntN.{pos, ◌-ℤ◌}
use lib.Signed.{◌≤ℤ◌, le_z_yes}
use Rattle.octets.proofs.Cases.{both}
use Rattle.octets.proofs.Whole.{minus_less, minus_more}
use Rattle.octets.specs.declared.Signed.{Signed}
use Rattle.octets.specs.Numbers.{whole, whole_of}
use Rattle.section_3_geometry.specs.declared.DegreeGrid.{DegreeGrid}
use Rattle.section_3_geometry.specs.Geometry.{Measured, is_taken, south_of}
use Rattle.section_3_geometry.proofs.Tests.{Counted, counted}

-- A grid that is taken has columns and rows, and its corners are places in order.
pub taken_measured : (g : DegreeGrid) (points : ℕ) → is_taken g points ≡ true → Measured g
taken_measured g points e =
    let tests = both _ _ (both _ _ e).0 in
    let count = counted g.frame points tests.0 in
    record { columns = count.columns1; rows = count.rows1; corners = tests.1 }

-- It has columns and rows, and as many points as are told.
pub taken_counted : (g : DegreeGrid) (points : ℕ) → is_taken g points ≡ true → Counted g.frame points
taken_counted g points e = counted g.frame points (both _ _ (both _ _ e).0).0

-- Every latitude is 90,000,000 less its distance from the north pole.
pub south_is : (latitude : Signed) → latitude.size ≤ 90000000 → whole latitude ≡ pos 90000000 -ℤ pos (south_of latitude)
south_is latitude h = go latitude.negative latitude.size h
  where
    go : (negative : Bool) (size : ℕ) → size ≤ 90000000 → whole_of negative size ≡ pos 90000000 -ℤ pos (south_of (record { negative = negative; size = size }))
    go true size h = sym (minus_more 90000000 size)
    go false size h = ap pos (omega arith) ∙ sym (minus_less 90000000 (90000000 - size) (omega arith))

-- One latitude lies no farther south than another exactly when it is no less in whole numbers with a sign.
pub south_orders : (a b : Signed) → a.size ≤ 90000000 → b.size ≤ 90000000 → (south_of a ≤ south_of b) ↔ (whole b ≤ℤ whole a)
south_orders a b = go a.negative a.size b.negative b.size
  where
    go : (negA : Bool) (m : ℕ) (negB : Bool) (n : ℕ) →
        m ≤ 90000000 →
        n ≤ 90000000 →
        (south_of (record { negative = negA; size = m }) ≤ south_of (record { negative = negB; size = n })) ↔ (whole_of negB n ≤ℤ whole_of negA m)
    go false m false n h k = (λ l. le_z_yes (le→leb n m (omega arith)), λ l. omega (arith, leb→le n m l.le))
    go false m true zero h k = (λ l. le_z_yes (le→leb 0 m (omega arith)), λ l. omega arith)
    go false m true (suc n) h k = (λ l. le_z_yes tt, λ l. omega arith)
    go true zero false n h k = (λ l. le_z_yes (le→leb n 0 (omega arith)), λ l. omega (arith, leb→le n 0 l.le))
    go true (suc m) false n h k = (λ l. absurd (omega arith), λ l. absurd l.le)
    go true zero true zero h k = (λ l. le_z_yes tt, λ l. omega arith)
    go true zero true (suc n) h k = (λ l. le_z_yes tt, λ l. omega arith)
    go true (suc m) true zero h k = (λ l. absurd (omega arith), λ l. absurd l.le)
    go true (suc m) true (suc n) h k = (λ l. le_z_yes (le→leb m n (omega arith)), λ l. omega (arith, leb→le m n l.le))
