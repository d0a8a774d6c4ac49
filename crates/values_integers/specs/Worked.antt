-- RULES, "Section 7": how the code works out the integers of complex packing: in numbers without a sign, and only while each is in its range.
use Rattle.std.specs.Prelude.{ℕ, zero, suc, ◌+◌, ◌&&◌, cond, leb, Option, Some, None}
use Rattle.octets.specs.declared.Signed.{Signed}
use Rattle.values_group.specs.declared.Latest.{Latest}
use Rattle.values_group.specs.Group.{most_x, next}
use Rattle.section_7_layout.specs.declared.Differencing.{Differencing}

-- What Zmin adds, and what it takes away.
abbrev pub raised_by : Signed → ℕ
raised_by z = cond z.negative 0 z.size

abbrev pub lowered_by : Signed → ℕ
lowered_by z = cond z.negative z.size 0

-- The last two of the integers up to the second, and so many more, where all of them are in their range.
unfoldable pub worked : Differencing → (ℕ → ℕ) → ℕ → Option Latest
worked d stored zero = cond (leb d.first most_x && leb d.second most_x) (Some (record { x = d.second; before = d.first })) None
worked d stored (suc m) = next (stored (suc (suc m)) + raised_by d.zmin) (lowered_by d.zmin) (worked d stored m)
