-- A block that goes around in the loops that fill a field: its first elements are lent, filled with the next integers, and written.
use mathlib.Core.Path.{◌≡◌, sym, ◌∙◌}
use mathlib.Core.List.{List}
use Prim.Native.Nat.{ℕ, ◌-◌, ◌≤◌}
use native.Mathlib.Nat.{sub-zero}
use native.Mathlib.Omega.{arith}
use borrow.Author.Tests.{ltb-true, ltb-false}
use borrow.Rule.Slice.PartMut.{post_of, put_mid}
use lib.Dec.{ltb}
use lib.ListN.{length, take}
use lib.Seq.{length-take-le, take_at}
use Rattle.octets.proofs.Cases.{split}
use Rattle.values_points.specs.Written.{block_length}

-- A block has no more integers than are left, nor than 56, and is not empty where some are left.
pub block_within : {r : ℕ} (left : ℕ) → r ≡ block_length left → 1 ≤ left → (r ≤ left) × (r ≤ 56) × (1 ≤ r)
block_within left same some =
    split (ltb left 56)
    (λ less. let all = rw less at same in (omega (arith, all), omega (arith, all, ltb-true left 56 less), omega (arith, all)))
    (λ more. let most = rw more at same in (omega (arith, most, ltb-false left 56 more), omega (arith, most), omega (arith, most)))

-- The part that is lent has so many elements.
pub part_length : {n : ℕ} (block : List ℕ) → n ≤ length block → length (take (n - 0) block) ≡ n
part_length {n} block h = rw (sub-zero n) (length-take-le n block h)

-- When it is back, it is what the block begins with.
pub part_back : {n : ℕ} (block part : List ℕ) → length part ≡ n → take (n - 0) (put_mid 0 (n - 0) block part) ≡ part
part_back {n} block part same = take_at part (post_of 0 (n - 0) block) (n - 0) (same ∙ sym (sub-zero n))
