-- Words are added bit by bit and no bit is lost: at each place three digits make one of the sum and one of the carry, as where they are added by hand.
-- So the ones of three words are those of the sum and twice those of the carry.
use mathlib.Core.Path.{◌≡◌, refl, ap, ap₂, ◌∙◌}
use Prim.Native.Nat.{ℕ, zero, suc, ◌+◌, ◌*◌, ◌/◌, ◌%◌, ◌^◌, ◌<◌}
use native.Mathlib.Nat.{pow-suc}
use native.Mathlib.Omega.{arith}
use lib.Arith.{lt-one}
use lib.Bits.{bit_and, bit_or, bit_xor, and_shr, or_shr, xor_shr, and_mod, or_mod, xor_mod}
use lib.Count.{ones, ones_step}

abbrev sum_bits : ℕ → ℕ → ℕ → ℕ
sum_bits a b c = bit_xor (bit_xor a b) c

abbrev carry_bits : ℕ → ℕ → ℕ → ℕ
carry_bits a b c = bit_or (bit_and a b) (bit_and (bit_xor a b) c)

-- The lowest place of either is made of the lowest digits, and the others of the rest.
sum_half : (a b c : ℕ) → sum_bits a b c / 2 ≡ sum_bits (a / 2) (b / 2) (c / 2)
sum_half a b c = xor_shr (bit_xor a b) c 1 ∙ ap (λ (x : ℕ). bit_xor x (c / 2)) (xor_shr a b 1)

sum_lowest : (a b c : ℕ) → sum_bits a b c % 2 ≡ sum_bits (a % 2) (b % 2) (c % 2)
sum_lowest a b c = xor_mod (bit_xor a b) c 1 ∙ ap (λ (x : ℕ). bit_xor x (c % 2)) (xor_mod a b 1)

carry_half : (a b c : ℕ) → carry_bits a b c / 2 ≡ carry_bits (a / 2) (b / 2) (c / 2)
carry_half a b c =
    or_shr (bit_and a b) (bit_and (bit_xor a b) c) 1
    ∙ ap₂ bit_or (and_shr a b 1) (and_shr (bit_xor a b) c 1 ∙ ap (λ (x : ℕ). bit_and x (c / 2)) (xor_shr a b 1))

carry_lowest : (a b c : ℕ) → carry_bits a b c % 2 ≡ carry_bits (a % 2) (b % 2) (c % 2)
carry_lowest a b c =
    or_mod (bit_and a b) (bit_and (bit_xor a b) c) 1
    ∙ ap₂ bit_or (and_mod a b 1) (and_mod (bit_xor a b) c 1 ∙ ap (λ (x : ℕ). bit_and x (c % 2)) (xor_mod a b 1))

-- Three digits.
digits_added : (x y z : ℕ) → x < 2 → y < 2 → z < 2 → x + y + z ≡ sum_bits x y z + 2 * carry_bits x y z
digits_added zero zero zero hx hy hz = refl
digits_added zero zero (suc zero) hx hy hz = refl
digits_added zero (suc zero) zero hx hy hz = refl
digits_added zero (suc zero) (suc zero) hx hy hz = refl
digits_added (suc zero) zero zero hx hy hz = refl
digits_added (suc zero) zero (suc zero) hx hy hz = refl
digits_added (suc zero) (suc zero) zero hx hy hz = refl
digits_added (suc zero) (suc zero) (suc zero) hx hy hz = refl
digits_added (suc (suc x)) y z hx hy hz = absurd (omega arith)
digits_added zero (suc (suc y)) z hx hy hz = absurd (omega arith)
digits_added (suc zero) (suc (suc y)) z hx hy hz = absurd (omega arith)
digits_added zero zero (suc (suc z)) hx hy hz = absurd (omega arith)
digits_added zero (suc zero) (suc (suc z)) hx hy hz = absurd (omega arith)
digits_added (suc zero) zero (suc (suc z)) hx hy hz = absurd (omega arith)
digits_added (suc zero) (suc zero) (suc (suc z)) hx hy hz = absurd (omega arith)

-- The ones of the sum and of the carry are that of the lowest place and those of the others.
ones_of_sum : (a b c : ℕ) → ones (sum_bits a b c) ≡ sum_bits (a % 2) (b % 2) (c % 2) + ones (sum_bits (a / 2) (b / 2) (c / 2))
ones_of_sum a b c = ones_step (sum_bits a b c) ∙ ap₂ (λ (x y : ℕ). x + ones y) (sum_lowest a b c) (sum_half a b c)

ones_of_carry : (a b c : ℕ) → ones (carry_bits a b c) ≡ carry_bits (a % 2) (b % 2) (c % 2) + ones (carry_bits (a / 2) (b / 2) (c / 2))
ones_of_carry a b c = ones_step (carry_bits a b c) ∙ ap₂ (λ (x y : ℕ). x + ones y) (carry_lowest a b c) (carry_half a b c)

half_lt : (k n : ℕ) → n < 2 ^ suc k → n / 2 < 2 ^ k
half_lt k n h = omega (arith, pow-suc 2 k)

-- Three numbers of k digits.
pub ones_added : (k a b c : ℕ) → a < 2 ^ k → b < 2 ^ k → c < 2 ^ k → ones (sum_bits a b c) + 2 * ones (carry_bits a b c) ≡ ones a + ones b + ones c
unfolding ones
ones_added zero a b c ha hb hc = rw (lt-one ha, lt-one hb, lt-one hc) refl
ones_added (suc k) a b c ha hb hc =
    let rest = ones_added k (a / 2) (b / 2) (c / 2) (half_lt k a ha) (half_lt k b hb) (half_lt k c hc) in
    let lowest = digits_added (a % 2) (b % 2) (c % 2) (omega arith) (omega arith) (omega arith) in
    omega (arith, ones_of_sum a b c, ones_of_carry a b c, rest, lowest, ones_step a, ones_step b, ones_step c)
