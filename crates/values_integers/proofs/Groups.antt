-- The theorem `stands_group`: the group that a definition finds for a value is the one in which the value stands, and what is stored for the
-- value is that group's reference and the packed number of that group.
use mathlib.Core.Path.{◌≡◌, refl, ◌∙◌}
use mathlib.Core.List.{List}
use Prim.Native.Nat.{ℕ, zero, suc, ◌+◌, ◌-◌, ◌≤◌, ◌<◌}
use native.Mathlib.Omega.{arith}
use borrow.Author.Tests.{lt-ltb, le-ltb, ltb-true, ltb-false}
use lib.Dec.{ltb}
use Rattle.octets.proofs.Cases.{split}
use Rattle.section_5_groups.specs.declared.Grouping.{Grouping}
use Rattle.section_7_layout.specs.declared.Layout.{Layout}
use Rattle.section_7.specs.Packing.{values_before}
use Rattle.section_7.proofs.Laws.{values_more, values_mono}
use Rattle.values_integers.specs.Integers.{InGroup, group_among, group_of, packed_in, reference_of, stored_at}

module _ (run : List ℕ) (at : Layout) (g : Grouping) {m i j : ℕ} (s : InGroup run at g m i j) where
  -- A value lies behind the values of the groups up to its own, and before those of the next.
  not_before : (n : ℕ) → n ≤ i → values_before run at g n ≤ m
  not_before n h = omega (arith, values_mono run at g {i = n} i h, s.behind)

  before_next : (n : ℕ) → i < n → m < values_before run at g n
  before_next n h = omega (arith, values_more run at g i, values_mono run at g {i = i + 1} n (omega arith), s.behind, s.inside)

  among_few : (n : ℕ) → n ≤ i → group_among run at g n m ≡ n
  unfolding group_among
  among_few zero h = refl
  among_few (suc n) h = rw (le-ltb m (values_before run at g (suc n)) (not_before (suc n) h))

  among_all : (n : ℕ) → i < n → group_among run at g n m ≡ i
  unfolding group_among
  among_all zero h = absurd (omega arith)
  among_all (suc n) h =
      rw (lt-ltb m (values_before run at g (suc n)) (before_next (suc n) h))
      (split (ltb i n)
      (λ less. among_all n (ltb-true i n less))
      (λ last. let same : n ≡ i = omega (arith, ltb-false i n last) in among_few n (omega arith) ∙ same))

  pub stands_group : group_of run at g m ≡ i
  stands_group = among_all g.groups s.within

  -- What is stored for value m.
  pub stands_stored : (bits : ℕ) → stored_at run at bits g m ≡ packed_in run at g i j + reference_of run at bits i
  unfolding stored_at
  stands_stored bits =
      let offset : m - values_before run at g i ≡ j = omega (arith, s.behind) in
      rw (stands_group, offset)
