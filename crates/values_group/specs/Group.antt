-- RULES, "Section 7": how the code works out the integers X of one group: in numbers without a sign, and only while each is in its range.
use Rattle.std.specs.Prelude.{◌≡◌, ℕ, zero, suc, ◌+◌, ◌-◌, ◌*◌, ◌%◌, ◌^◌, ◌≤◌, true, cond, List, nat_lt, Option, Some, None, is_some}
use Rattle.bits.specs.Bits.{bits_at}
use Rattle.values_group.specs.declared.Group as declared
use Rattle.values_group.specs.declared.Latest.{Latest}

-- The largest X.
abbrev pub most_x : ℕ
most_x = 2147483647

-- The next integer is `up` less `down`, where that is from 0 to 2,147,483,647; `x` is the one before it.
abbrev pub judged : ℕ → ℕ → ℕ → Option Latest
judged x up down = cond (nat_lt up down) None (cond (nat_lt most_x (up - down)) None (Some (record { x = up - down; before = x })))

-- One step of the recurrence: `raised` and twice the last integer, less the one before it and `lowered`. Behind an integer out of its range there is none.
abbrev pub next : ℕ → ℕ → Option Latest → Option Latest
next raised lowered (Some latest) = judged latest.x (raised + 2 * latest.x) (latest.before + lowered)
next raised lowered None = None

-- The packed number k of the group.
abbrev pub packed_number : List ℕ → declared.Group → ℕ → ℕ
packed_number run g k = bits_at run (g.from.0 + k * g.width) g.width

-- The last two integers behind k integers of the group, and behind those before it, where all of them are in their range.
unfoldable pub worked_by : List ℕ → declared.Group → Option Latest → ℕ → Option Latest
worked_by run g w zero = w
worked_by run g w (suc k) = next (packed_number run g k + g.base) g.lowered (worked_by run g w k)

abbrev pub last_of : Option Latest → ℕ
last_of (Some latest) = latest.x
last_of None = 0

-- The integers of the group behind two others, by their numbers.
abbrev pub integers_of : List ℕ → declared.Group → Latest → ℕ → ℕ
integers_of run g from k = last_of (worked_by run g (Some from) (suc k))

-- Sizes within which no sum here leaves the machine's numbers.
pub record Limits (g : declared.Group) (latest : Latest) : Type 0 where
  pub of_end : g.from.0 + g.count * g.width ≤ 1099511627776
  pub of_width : g.width ≤ 31
  pub of_base : g.base ≤ 8589934592
  pub of_lowered : g.lowered ≤ 4294967296
  pub of_count : g.count ≤ 4294967296
  pub of_last : latest.x ≤ most_x
  pub of_before : latest.before ≤ most_x

-- The first `count` integers of the group, behind two others, have been judged: all are in their range.
abbrev pub GroupKept : List ℕ → declared.Group → Latest → ℕ → Type 0
GroupKept run g from count = is_some (worked_by run g (Some from) count) ≡ true

-- Behind these the last two integers are those of `to`.
abbrev pub GroupGoes : List ℕ → declared.Group → Latest → ℕ → Latest → Type 0
GroupGoes run g from count to = worked_by run g (Some from) count ≡ Some to

-- What the recurrence adds to each packed number, where 2 ^ 64 counts as 0: the reference with what Zmin adds, less what Zmin takes away.
abbrev pub Gains : (gain base lowered : ℕ) → Type 0
Gains gain base lowered = (base ≤ 8589934592) × (lowered ≤ 4294967296) × ((gain + lowered) % 2 ^ 64 ≡ base)

-- What the recurrence gives behind two integers, worked out where 2 ^ 64 counts as 0: an integer below 0 is far too large.
abbrev pub wrapped : (packed gain : ℕ) → Latest → ℕ
wrapped packed gain latest = (packed + gain + 2 * latest.x + (2 ^ 64 - latest.before)) % 2 ^ 64

-- Behind an integer it is the last one.
abbrev pub followed_by : ℕ → Latest → Latest
followed_by x latest = record { x = x; before = latest.x }

-- A packed number gives the integer x behind the two of `from`, and the last two are those of `to` then.
pub record Follows (packed gain : ℕ) (from : Latest) (x : ℕ) (to : Latest) : Type 0 where
  pub value : x ≡ wrapped packed gain from
  pub last : to ≡ followed_by x from

-- What is left of a group behind its first numbers.
abbrev pub behind : declared.Group → ℕ → declared.Group
behind g done = record { from = record { 0 = g.from.0 + done * g.width }; width = g.width; base = g.base; lowered = g.lowered; count = g.count - done }
