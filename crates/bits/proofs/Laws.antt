-- The laws of the number of b bits, each once, over b: its bound, its parts, and that it is cut out of a window of octets.
use mathlib.Core.Path.{◌≡◌, refl, sym, ap, ap₂, ◌∙◌}
use Prim.Native.Nat.{ℕ, zero, suc, ◌+◌, ◌-◌, ◌*◌, ◌/◌, ◌%◌, ◌^◌, ◌≤◌, ◌<◌}
use native.Mathlib.Nat.{add-zero, add-suc, add_assoc, mul_assoc, add-mul, one-mul, pow-suc, suc-mul, div-add-mod', mod-eq_of_lt, lt_of_lt_of_le}
use native.Mathlib.Numerals.{add-one}
use native.Mathlib.Omega.{arith}
use mathlib.Core.List.{List}
use lib.Arith.{digits_lt, digits_div, digits_mod}
use lib.ListN.{get_or}
use lib.Pow.{pow_mono, pow-lt, high, low, shr-shr}
use Rattle.octets.specs.Numbers.{number_at}
use Rattle.bits.specs.Bits.{bit_at, bits_at, octets_of}

pub bit_lt : (run : List ℕ) (i : ℕ) → bit_at run i < 2
unfolding bit_at
bit_lt run i = omega arith

-- A number of b bits is below 2 ^ b.
pub bits_lt : (run : List ℕ) (at b : ℕ) → bits_at run at b < 2 ^ b
unfolding bits_at
bits_lt run at zero = omega arith
bits_lt run at (suc b) = rw (pow-suc 2 b) (digits_lt (bits_lt run at b) (bit_lt run (at + b)))

-- So a number of at most 32 bits fits 32.
pub bits_fit : (run : List ℕ) (at b : ℕ) → b ≤ 32 → bits_at run at b < 2 ^ 32
bits_fit run at b h = lt_of_lt_of_le (bits_lt run at b) (pow_mono h)

-- One bit more.
pub bits_more : (run : List ℕ) (at b : ℕ) → bits_at run at (b + 1) ≡ bits_at run at b * 2 + bit_at run (at + b)
unfolding bits_at
bits_more run at b = rw (add-one b)

pub bits_more_lt : (run : List ℕ) (at taken b : ℕ) → taken < b → bits_at run at taken * 2 + bit_at run (at + taken) < 2 ^ b
unfolding bits_at
bits_more_lt run at taken b h = lt_of_lt_of_le (bits_lt run at (suc taken)) (pow_mono h)

-- Some bits, and then some more.
pub bits_add : (run : List ℕ) (at b c : ℕ) → bits_at run at (b + c) ≡ bits_at run at b * 2 ^ c + bits_at run (at + b) c
unfolding bits_at
bits_add run at b zero = rw (add-zero b) (omega arith)
bits_add run at b (suc c) =
    rw (add-suc b c, bits_add run at b c, pow-suc 2 c, ← mul_assoc (bits_at run at b) (2 ^ c) 2, add_assoc at b c) (omega arith)

bit_of_octet : (run : List ℕ) (q r : ℕ) → r < 8 → bit_at run (q * 8 + r) ≡ get_or run q 0 / 2 ^ (7 - r) % 2
unfolding bit_at
bit_of_octet run q r h = rw (digits_div q h, digits_mod q h)

-- The first r bits of an octet are its high part.
part_of_octet : (run : List ℕ) (q r : ℕ) → get_or run q 0 < 256 → r ≤ 8 → bits_at run (q * 8) r ≡ get_or run q 0 / 2 ^ (8 - r)
unfolding bits_at
part_of_octet run q zero h l = omega arith
part_of_octet run q (suc r) h l =
    let octet : ℕ = get_or run q 0 in
    let part : ℕ = octet / 2 ^ (8 - suc r) in
    let one_less : 8 - r ≡ (8 - suc r) + 1 = omega arith in
    let same : 7 - r ≡ 8 - suc r = omega arith in
    let before : bits_at run (q * 8) r ≡ part / 2 = part_of_octet run q r h (omega arith) ∙ ap (λ (k : ℕ). octet / 2 ^ k) one_less ∙ sym (shr-shr octet (8 - suc r) 1) in
    let last : bit_at run (q * 8 + r) ≡ part % 2 = bit_of_octet run q r l ∙ ap (λ (k : ℕ). octet / 2 ^ k % 2) same in
    ap₂ (λ (m n : ℕ). m * 2 + n) before last ∙ omega arith

-- The eight bits of an octet are the octet.
octet_bits : (run : List ℕ) (q : ℕ) → get_or run q 0 < 256 → bits_at run (q * 8) 8 ≡ get_or run q 0
octet_bits run q h = part_of_octet run q 8 h (omega arith) ∙ omega arith

-- The bits of n octets are the number that the octets hold.
pub bits_of_octets : (run : List ℕ) (q n : ℕ) → ((i : ℕ) → get_or run i 0 < 256) → bits_at run (q * 8) (n * 8) ≡ number_at run q n
unfolding number_at bits_at
bits_of_octets run q zero octets = refl
bits_of_octets run q (suc n) octets =
    rw (suc-mul n 8, bits_add run (q * 8) (n * 8) 8, bits_of_octets run q n octets, ← add-mul q n 8, octet_bits run (q + n) (octets (q + n)))

-- The b bits that stand r bits after the start of a window of n bits.
pub bits_in_window : (run : List ℕ) (at n r b : ℕ) → r + b ≤ n → bits_at run at n / 2 ^ (n - r - b) % 2 ^ b ≡ bits_at run (at + r) b
bits_in_window run at n r b h =
    let rest : ℕ = n - r - b in
    let parts : n ≡ r + b + rest = omega arith in
    let window : bits_at run at n ≡ bits_at run at (r + b) * 2 ^ rest + bits_at run (at + (r + b)) rest = ap (bits_at run at) parts ∙ bits_add run at (r + b) rest in
    ap (λ (w : ℕ). w / 2 ^ rest % 2 ^ b) window
    ∙ ap (λ (w : ℕ). w % 2 ^ b) (high (bits_at run at (r + b)) rest (bits_lt run (at + (r + b)) rest))
    ∙ ap (λ (w : ℕ). w % 2 ^ b) (bits_add run at r b)
    ∙ low (bits_at run at r) b (bits_lt run (at + r) b)

-- The same, where the window is the eight octets from the one on that holds the first of the bits.
pub bits_in_octets : (run : List ℕ) (at b : ℕ) → ((i : ℕ) → get_or run i 0 < 256) → at % 8 + b ≤ 64
    → number_at run (at / 8) 8 / 2 ^ (64 - at % 8 - b) % 2 ^ b ≡ bits_at run at b
bits_in_octets run at b octets h =
    ap (λ (w : ℕ). w / 2 ^ (64 - at % 8 - b) % 2 ^ b) (sym (bits_of_octets run (at / 8) 8 octets))
    ∙ bits_in_window run (at / 8 * 8) 64 (at % 8) b h
    ∙ ap (λ (i : ℕ). bits_at run i b) (div-add-mod' at 8)

-- Of several numbers of b bits in such a window, which is shifted down until the last of them stands lowest, the one behind `skip` bits is found by a
-- further shift.
pub one_of_several : (run : List ℕ) (at b whole skip down : ℕ) → ((i : ℕ) → get_or run i 0 < 256) → whole ≤ 56 → skip + b + down ≡ whole
    → number_at run (at / 8) 8 / 2 / 2 ^ (63 - at % 8 - whole) / 2 ^ down % 2 ^ b ≡ bits_at run (at + skip) b
one_of_several run at b whole skip down octets narrow parts =
    let window : ℕ = number_at run (at / 8) 8 in
    let shift : 1 + (63 - at % 8 - whole) + down ≡ 64 - (at % 8 + skip) - b = omega arith in
    let place : at / 8 * 8 + (at % 8 + skip) ≡ at + skip = omega arith in
    let lowest : window / 2 / 2 ^ (63 - at % 8 - whole) / 2 ^ down ≡ window / 2 ^ (64 - (at % 8 + skip) - b) =
    ap (λ (w : ℕ). w / 2 ^ down) (shr-shr window 1 (63 - at % 8 - whole)) ∙ shr-shr window (1 + (63 - at % 8 - whole)) down ∙ ap (λ (k : ℕ). window / 2 ^ k) shift in
    ap (λ (w : ℕ). w % 2 ^ b) lowest
    ∙ ap (λ (w : ℕ). w / 2 ^ (64 - (at % 8 + skip) - b) % 2 ^ b) (sym (bits_of_octets run (at / 8) 8 octets))
    ∙ bits_in_window run (at / 8 * 8) 64 (at % 8 + skip) b (omega arith)
    ∙ ap (λ (i : ℕ). bits_at run i b) place

-- Of k numbers of b bits, those before number i, number i and those behind it are all.
pub numbers_around : (i k b : ℕ) → i < k → i * b + b + (k - 1 - i) * b ≡ k * b
numbers_around i k b h =
    let all : i + 1 + (k - 1 - i) ≡ k = omega arith in
    omega (arith, ap (λ (n : ℕ). n * b) all, add-mul (i + 1) (k - 1 - i) b, add-mul i 1 b, one-mul b)

-- A 1 that is shifted up by less than 64 is a power of two.
pub one_shifted : {b : ℕ} → b < 64 → 1 * 2 ^ b % 2 ^ 64 ≡ 2 ^ b
one_shifted {b} h = ap (λ (n : ℕ). n % 2 ^ 64) (one-mul (2 ^ b)) ∙ mod-eq_of_lt (pow-lt h)

-- A half, a shift down by 63 - r - b and a remainder cut those bits out of a window of 64.
pub cut_by_shifts : (window r b : ℕ) → r + b ≤ 63 → window / 2 / 2 ^ (63 - r - b) % (1 * 2 ^ b % 2 ^ 64) ≡ window / 2 ^ (64 - r - b) % 2 ^ b
cut_by_shifts window r b h =
    let down : 1 + (63 - r - b) ≡ 64 - r - b = omega arith in
    ap₂ (λ (m n : ℕ). m % n) (shr-shr window 1 (63 - r - b) ∙ ap (λ (k : ℕ). window / 2 ^ k) down) (one_shifted (omega arith))

-- The octets of so many bits hold them, and no fewer octets do.
pub octets_hold : (bits : ℕ) → bits ≤ 8 * octets_of bits
octets_hold bits = omega arith

pub octets_least : (bits n : ℕ) → bits ≤ 8 * n → octets_of bits ≤ n
octets_least bits n h = omega arith
