-- What a caller may rely on where its groups are taken: their limits.
use mathlib.Core.Path.{◌≡◌}
use mathlib.Core.Bool.{true}
use Prim.Native.Nat.{ℕ, ◌≤◌}
use borrow.Author.Tests.{leb-true}
use lib.Dec.{leb}
use Rattle.octets.proofs.Cases.{both}
use Rattle.section_5_groups.specs.declared.Grouping.{Grouping}
use Rattle.section_5_groups.specs.Groups.{is_grouping}

-- The groups of n values in template 5.3: the reference width, and the bits of a stored width and of a stored length, are at most 31; each of the
-- three numbers that stand before the groups has 1 to 4 octets; there are at least two values, and from 1 to n groups.
pub record Grouped (g : Grouping) (n : ℕ) : Type 0 where
  pub width31 : g.widths.reference ≤ 31
  pub width_bits31 : g.widths.bits ≤ 31
  pub length_bits31 : g.lengths.bits ≤ 31
  pub extra1 : 1 ≤ g.extra
  pub extra4 : g.extra ≤ 4
  pub values2 : 2 ≤ n
  pub groups1 : 1 ≤ g.groups
  pub groups_n : g.groups ≤ n

-- That is what `is_grouping` tests.
module _ (g : Grouping) (n : ℕ) where
  pub grouped : is_grouping g n ≡ true → Grouped g n
  grouped e =
      let groups_n = both _ (leb g.groups n) e in
      let groups1 = both _ (leb 1 g.groups) groups_n.0 in
      let values2 = both _ (leb 2 n) groups1.0 in
      let extra4 = both _ (leb g.extra 4) values2.0 in
      let extra1 = both _ (leb 1 g.extra) extra4.0 in
      let length_bits31 = both _ (leb g.lengths.bits 31) extra1.0 in
      let width_bits31 = both _ (leb g.widths.bits 31) length_bits31.0 in
      record {
        width31 = leb-true _ _ width_bits31.0;
        width_bits31 = leb-true _ _ width_bits31.1;
        length_bits31 = leb-true _ _ length_bits31.1;
        extra1 = leb-true _ _ extra1.1;
        extra4 = leb-true _ _ extra4.1;
        values2 = leb-true _ _ values2.1;
        groups1 = leb-true _ _ groups1.1;
        groups_n = leb-true _ _ groups_n.1;
      }
