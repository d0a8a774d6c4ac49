-- The laws of bits that are set: those of a stretch of bits are the ones of the number that it holds.
use mathlib.Core.Path.{◌≡◌, refl, ap, ◌∙◌}
use mathlib.Core.List.{List}
use Prim.Native.Nat.{ℕ, zero, suc, ◌+◌, ◌*◌, ◌≤◌, ◌<◌}
use native.Mathlib.Nat.{add-zero, add-suc}
use native.Mathlib.Numerals.{add-one}
use native.Mathlib.Omega.{arith}
use lib.Count.{ones, ones_cat}
use lib.ListN.{get_or}
use Rattle.octets.specs.Numbers.{number_at}
use Rattle.bits.specs.Bits.{bit_at, bits_at}
use Rattle.bits.proofs.Laws.{bit_lt, bits_of_octets}
use Rattle.bits_ones.specs.Ones.{ones_before}

-- No more bits are set than there are.
pub ones_most : (run : List ℕ) (n : ℕ) → ones_before run n ≤ n
unfolding ones_before
ones_most run zero = omega arith
ones_most run (suc n) = omega (arith, ones_most run n, bit_lt run n)

-- One bit more.
pub ones_more : (run : List ℕ) (n : ℕ) → ones_before run (n + 1) ≡ ones_before run n + bit_at run n
unfolding ones_before
ones_more run n = rw (add-one n)

ones_of_bit : (bit : ℕ) → bit < 2 → ones bit ≡ bit
unfolding ones
ones_of_bit zero h = refl
ones_of_bit (suc zero) h = refl
ones_of_bit (suc (suc bit)) h = absurd (omega arith)

-- The bits that are set among b bits are the ones of the number that these hold.
pub ones_of_bits : (run : List ℕ) (at b : ℕ) → ones_before run (at + b) ≡ ones_before run at + ones (bits_at run at b)
unfolding ones_before bits_at ones
ones_of_bits run at zero = rw (add-zero at) (omega arith)
ones_of_bits run at (suc b) =
    let bit : ℕ = bit_at run (at + b) in
    let number : ℕ = bits_at run at b in
    let more : ones (number * 2 + bit) ≡ ones number + ones bit = ones_cat 1 number bit (bit_lt run (at + b)) in
    rw (add-suc at b, more, ones_of_bit bit (bit_lt run (at + b)), ones_of_bits run at b) (omega arith)

-- Eight octets more, from any octet on.
pub ones_of_eight : (run : List ℕ) (at : ℕ) → ((k : ℕ) → get_or run k 0 < 256) → ones_before run (8 * (at + 8)) ≡ ones_before run (8 * at) + ones (number_at run at 8)
ones_of_eight run at octets =
    let next : 8 * (at + 8) ≡ 8 * at + 64 = omega arith in
    let start : 8 * at ≡ at * 8 = omega arith in
    ap (ones_before run) next
    ∙ ones_of_bits run (8 * at) 64
    ∙ ap (λ (from : ℕ). ones_before run (8 * at) + ones (bits_at run from 64)) start
    ∙ ap (λ (number : ℕ). ones_before run (8 * at) + ones number) (bits_of_octets run at 8 octets)

-- Two words of eight octets more, as they were read.
pub ones_of_two : (run : List ℕ) (at : ℕ) → ((k : ℕ) → get_or run k 0 < 256) → {first second : ℕ} → first ≡ number_at run at 8 → second ≡ number_at run (at + 8) 8 →
    ones_before run (8 * (at + 16)) ≡ ones_before run (8 * at) + ones first + ones second
ones_of_two run at octets {first} {second} one two =
    let end : 8 * (at + 16) ≡ 8 * (at + 8 + 8) = omega arith in
    ap (ones_before run) end ∙ ones_of_eight run (at + 8) octets ∙ rw (ones_of_eight run at octets, one, two)

-- One word of eight octets more.
pub ones_of_word : (run : List ℕ) (i : ℕ) → ((k : ℕ) → get_or run k 0 < 256) → ones_before run (64 * (i + 1)) ≡ ones_before run (64 * i) + ones (number_at run (8 * i) 8)
ones_of_word run i octets =
    let next : 64 * (i + 1) ≡ 8 * (8 * i + 8) = omega arith in
    let start : 8 * (8 * i) ≡ 64 * i = omega arith in
    ap (ones_before run) next
    ∙ ones_of_eight run (8 * i) octets
    ∙ ap (λ (from : ℕ). ones_before run from + ones (number_at run (8 * i) 8)) start
