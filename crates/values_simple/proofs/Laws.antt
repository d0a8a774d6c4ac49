-- The laws of numbers that lie one behind the other.
use mathlib.Core.Path.{◌≡◌, refl, sym, ap, ◌∙◌}
use mathlib.Core.List.{List}
use Prim.Native.Nat.{ℕ, ◌+◌, ◌*◌, ◌%◌, ◌≤◌, ◌<◌}
use native.Mathlib.Nat.{add-mul, one-mul, lt_of_lt_of_le}
use native.Mathlib.Omega.{arith}
use borrow.Author.Tests.{ltb-false}
use lib.Dec.{ltb}
use lib.ListN.{length, get_or}
use lib.Pow.{pow_mono}
use Rattle.laws_rows.specs.Rows.{row}
use Rattle.laws_rows.proofs.Laws.{row_same, row_at}
use Rattle.octets.specs.Places.{first_bit}
use Rattle.octets.proofs.Cases.{split}
use Rattle.bits.specs.Bits.{bits_at}
use Rattle.bits.proofs.Laws.{bits_lt}
use Rattle.bits.specs.Fours.{numbers_at}
use Rattle.bits.proofs.Fours.{fours_foured, number_of_several}
use Rattle.bits_reader.specs.declared.BitReader.{BitReader}
use Rattle.values_points.specs.Written.{integers_in}
use Rattle.values_integers.specs.Integers.{simple_integer}
use Rattle.values_simple.specs.Simple.{numbers_from, integers_behind, ZerosWithoutBits, window_fours, Windowed}

-- The place behind m numbers more.
pub place_behind : (first k m bits : ℕ) {at next : ℕ} → at ≡ first + k * bits → next ≡ k + m → at + m * bits ≡ first + next * bits
place_behind first k m bits here more = rw more (omega (arith, add-mul k m bits))

-- The number at a place is the one that is counted there.
pub number_here : (run : List ℕ) (bits first k : ℕ) {at : ℕ} → at ≡ first + k * bits → bits_at run at bits ≡ numbers_from run bits first k
number_here run bits first k here = ap (λ (i : ℕ). bits_at run i bits) here

-- A reader stands at number k of a run of numbers.
pub record Stands (run : List ℕ) (bits first k : ℕ) (reader : BitReader) : Type 0 where
  pub same_run : reader.run.now ≡ run
  pub place : reader.at.0 ≡ first + k * bits

pub stands_first : (bits : ℕ) {run : List ℕ} {first : ℕ} {reader : BitReader} → reader.run.now ≡ run → reader.at.0 ≡ first → Stands run bits first 0 reader
stands_first bits same place = record { same_run = same; place = omega (arith, place) }

module _ {run : List ℕ} {bits first k : ℕ} {reader : BitReader} (stands : Stands run bits first k reader) where
  -- It goes on by some numbers.
  pub stands_on : {after : BitReader} → after.run ≡ reader.run → (n : ℕ) {j : ℕ} → after.at.0 ≡ reader.at.0 + n * bits → j ≡ k + n → Stands run bits first j after
  stands_on same n there more = record {
    same_run = ap (λ r. r.now) same ∙ stands.same_run;
    place = there ∙ place_behind first k n bits stands.place more;
  }

  pub stands_behind : {after : BitReader} → after.run ≡ reader.run → after.at.0 ≡ reader.at.0 + bits → Stands run bits first (k + 1) after
  stands_behind same there = stands_on same 1 (omega (arith, there, one-mul bits)) refl

  -- What it reads is that number, or that one and the three behind it.
  pub reads_one : {number : ℕ} → number ≡ bits_at reader.run.now reader.at.0 bits → number ≡ numbers_from run bits first k
  reads_one read = read ∙ ap (λ (r : List ℕ). bits_at r reader.at.0 bits) stands.same_run ∙ number_here run bits first k stands.place

  pub reads_four : {numbers : List ℕ} → numbers ≡ numbers_at reader.run.now reader.at.0 bits 4 → (n : ℕ) → n < 4 → get_or numbers n 0 ≡ numbers_from run bits first (k + n)
  reads_four {numbers} four n h =
      ap (λ (all : List ℕ). get_or all n 0) four
      ∙ number_of_several reader.run.now reader.at.0 bits 4 n h
      ∙ ap (λ (r : List ℕ). bits_at r (reader.at.0 + n * bits) bits) stands.same_run
      ∙ number_here run bits first (k + n) (place_behind first k n bits stands.place refl)

-- The integers behind the first ones are numbers from the place of the first of them on, and behind some of these from a place further on.
pub integers_from : (run : List ℕ) (bits done : ℕ) {first : ℕ} → first ≡ first_bit 6 + done * bits → (k : ℕ) → numbers_from run bits first k ≡ integers_behind run bits done k
integers_from run bits done start k = number_here run bits (first_bit 6) (done + k) (place_behind (first_bit 6) done k bits start refl)

pub numbers_further : (run : List ℕ) (bits first count k : ℕ) → numbers_from run bits (first + count * bits) k ≡ numbers_from run bits first (count + k)
numbers_further run bits first count k = number_here run bits first (count + k) (place_behind first count k bits refl refl)

module _ (run : List ℕ) (bits done : ℕ) (block : List ℕ) where
  -- A block of zeros has the integers of no bits.
  pub no_bits : bits ≡ 0 → ZerosWithoutBits bits block → block ≡ row (integers_behind run bits done) (length block)
  unfolding bits_at
  no_bits none zeros = zeros none ∙ row_same (λ _. 0) (integers_behind run bits done) (length block) (λ k _. rw none)

  -- Behind the unpacking a block of zeros for integers of no bits is as it was.
  pub zeros_stay : {after : List ℕ} → bits ≡ 0 → ZerosWithoutBits bits block → after ≡ row (integers_behind run bits done) (length block) → after ≡ block
  zeros_stay none zeros unpacked = unpacked ∙ sym (no_bits none zeros)

-- The integers that a block has are the field's, since they have at most 31 bits.
pub block_integers : (run : List ℕ) {bits : ℕ} (done n : ℕ) (block : List ℕ) → bits ≤ 31 → block ≡ row (integers_behind run bits done) n → (k : ℕ) → k < n →
    integers_in block k ≡ simple_integer run bits (done + k)
block_integers run {bits} done n block narrow same k inside =
    let integer = simple_integer run bits (done + k) in
    let here : get_or block k 0 ≡ integer = ap (λ (r : List ℕ). get_or r k 0) same ∙ row_at (integers_behind run bits done) n k 0 inside in
    let most : integer < 2147483648 = lt_of_lt_of_le (bits_lt run (first_bit 6 + (done + k) * bits) bits) (pow_mono {j = 31} narrow) in
    let remainder : integer % 2147483648 ≡ integer = omega (arith, most) in
    ap (λ (i : ℕ). i % 2147483648) here ∙ remainder

-- What is counted can be read in fours, each from one window: the law that the callers cite of the answer they were given.
pub windowed : {fours : ℕ} (run : List ℕ) (bits n : ℕ) → fours ≡ window_fours run bits n → Windowed run bits n fours
windowed {fours} run bits n counted =
    split (ltb 14 bits)
    (λ wide.
    let none : fours ≡ 0 = rw wide at counted in
    (λ some. absurd (omega (arith, none)), record { few = omega (arith, none); narrow = λ some. absurd (omega (arith, none)); inside = λ some. absurd (omega (arith, none)) }))
    (λ narrow. (λ _. ltb-false 14 bits narrow, fours_foured (length run) (first_bit 6) bits n (rw narrow at counted)))
