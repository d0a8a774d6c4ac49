-- RULES, "Section 5": what template 5.3 says of its groups.
use Rattle.std.specs.Prelude.{ℕ, Bool, ◌&&◌, List, eqb, leb}
use Rattle.section.specs.Sections.{octet, held}
use Rattle.section_5_groups.specs.declared.Grouping.{Grouping}

-- What template 5.3 says of its groups: how many there are, how their widths and lengths are stored, and how many octets each of the three
-- numbers takes that stand before them.
abbrev pub grouping_at : List ℕ → ℕ → Grouping
grouping_at file s =
    record {
      groups = held file s 32 35;
      widths = record { reference = octet file s 36; bits = octet file s 37 };
      lengths = record { reference = held file s 38 41; increment = octet file s 42; last = held file s 43 46; bits = octet file s 47 };
      extra = octet file s 49;
    }

-- The groups are general ones (octet 22 is 1), no value is marked as missing (octet 23 is 0), and differences are of the second order (octet
-- 48 is 2).
abbrev pub is_differenced : List ℕ → ℕ → Bool
is_differenced file s = eqb (octet file s 22) 1 && eqb (octet file s 23) 0 && eqb (octet file s 48) 2

-- Octets 36, 37 and 47 are at most 31, octet 49 is from 1 to 4, there are at least two values, and from 1 to N groups.
abbrev pub is_grouping : Grouping → ℕ → Bool
is_grouping g n =
    leb g.widths.reference 31
    && leb g.widths.bits 31
    && leb g.lengths.bits 31
    && leb 1 g.extra
    && leb g.extra 4
    && leb 2 n
    && leb 1 g.groups
    && leb g.groups n
