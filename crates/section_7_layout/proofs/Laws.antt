-- The laws of the runs of a section 7, each once: what they hold fits the machine's numbers, and they start within bounds.
use mathlib.Core.List.{List}
use Prim.Native.Nat.{ℕ, ◌*◌, ◌^◌, ◌≤◌, ◌<◌}
use native.Mathlib.Nat.{lt_of_le_of_lt, lt_of_lt_of_le, mul-le-mul_left, pow-le-pow_right}
use native.Mathlib.Omega.{arith}
use lib.Dec.{lit<}
use lib.Pow.{pow_mono}
use Rattle.bits.specs.Bits.{bits_at}
use Rattle.bits.proofs.Laws.{bits_lt}
use Rattle.section_5_groups.specs.declared.Grouping.{Grouping}
use Rattle.section_7_layout.specs.declared.Layout.{Layout}
use Rattle.section_7_layout.specs.Runs.{layout_of, Limited}

-- A number of at most four octets fits 32 bits.
pub fits_four : {v : ℕ} (n : ℕ) → n ≤ 4 → v < 256 ^ n → v < 2 ^ 32
fits_four n h k = lt_of_lt_of_le k (pow-le-pow_right {n = 256} (lit< tt) h)

-- Fewer than 2^32 numbers of at most 31 bits take fewer than 2^37 bits.
pub run_fits : {count b : ℕ} → count < 2 ^ 32 → b ≤ 31 → count * b < 2 ^ 37
run_fits {count} h k = lt_of_le_of_lt (mul-le-mul_left count k) (omega arith)

-- A number of at most 31 bits is below 2^31.
pub stored_fits : (run : List ℕ) (place : ℕ) {b : ℕ} → b ≤ 31 → bits_at run place b < 2 ^ 31
stored_fits run place {b} h = lt_of_lt_of_le (bits_lt run place b) (pow_mono h)

-- The runs of a section follow one another, behind the section's head, and their starts are small numbers.
pub record Bounded (at : Layout) : Type 0 where
  pub behind_head : 6 ≤ at.references.0
  pub widths_behind : at.references.0 ≤ at.widths.0
  pub lengths_behind : at.widths.0 ≤ at.lengths.0
  pub packed_behind : at.lengths.0 ≤ at.packed.0
  pub small : at.packed.0 < 2 ^ 40

pub layout_bounded : (bits : ℕ) (g : Grouping) → Limited bits g → g.groups < 2 ^ 32 → Bounded (layout_of bits g)
layout_bounded bits g h k =
    let references : g.groups * bits < 2 ^ 37 = run_fits k h.of_numbers in
    let widths : g.groups * g.widths.bits < 2 ^ 37 = run_fits k h.of_width_bits in
    let lengths : g.groups * g.lengths.bits < 2 ^ 37 = run_fits k h.of_length_bits in
    record { behind_head = omega arith; widths_behind = omega arith; lengths_behind = omega arith; packed_behind = omega arith; small = omega arith }
