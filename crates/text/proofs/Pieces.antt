-- Pieces of text that are put one behind the other while there is room.
use mathlib.Core.Path.{◌≡◌, sym, ap, ◌∙◌, subst}
use mathlib.Core.List.{List, [], ◌∷◌, ◌++◌}
use Prim.Native.Nat.{ℕ, ◌+◌, ◌/◌, ◌^◌, ◌≤◌, ◌<◌}
use native.Mathlib.Omega.{arith}
use lib.ListN.{length, length-append}
use Rattle.laws_rows.specs.Rows.{Puts}
use Rattle.laws_rows.proofs.Puts.{puts_none, puts_then, puts_length}
use Rattle.calendar.specs.Calendar.{digit}
use Rattle.text.specs.Text.{decimal}
use Rattle.text.proofs.Laws.{decimal_small, decimal_more}

-- Three, four or five pieces that are put one behind another are put as one, of elements of any type.
module _ {A : Type 0} where
  pub puts_three :
      (run : List A) (at : ℕ) (s t u : List A) {a b c : List A} {i j n : ℕ}
      → at + length (s ++ t ++ u) ≤ length run
      → Puts run at s a i
      → Puts a i t b j
      → Puts b j u c n
      → Puts run at (s ++ t ++ u) c n
  puts_three run at s t u fits first second third =
      let two = length-append s t in
      let three = length-append (s ++ t) u in
      puts_then run at (s ++ t) u (omega arith) (puts_then run at s t (omega arith) first second) third

  pub puts_four :
      (run : List A) (at : ℕ) (s t u v : List A) {a b c d : List A} {i j k n : ℕ}
      → at + length (s ++ t ++ u ++ v) ≤ length run
      → Puts run at s a i
      → Puts a i t b j
      → Puts b j u c k
      → Puts c k v d n
      → Puts run at (s ++ t ++ u ++ v) d n
  puts_four run at s t u v fits first second third fourth =
      let four = length-append (s ++ t ++ u) v in
      puts_then run at (s ++ t ++ u) v (omega arith) (puts_three run at s t u (omega arith) first second third) fourth

  pub puts_five :
      (run : List A) (at : ℕ) (s t u v w : List A) {a b c d e : List A} {i j k m n : ℕ}
      → at + length (s ++ t ++ u ++ v ++ w) ≤ length run
      → Puts run at s a i
      → Puts a i t b j
      → Puts b j u c k
      → Puts c k v d m
      → Puts d m w e n
      → Puts run at (s ++ t ++ u ++ v ++ w) e n
  puts_five run at s t u v w fits first second third fourth fifth =
      let five = length-append (s ++ t ++ u ++ v) w in
      puts_then run at (s ++ t ++ u ++ v) w (omega arith) (puts_four run at s t u v (omega arith) first second third fourth) fifth

-- A text was put into run `a` from `at` on, which made it run `b`, and from `r`, the place behind the text, there is still so much room.
pub record Told (a : List ℕ) (at : ℕ) (u : List ℕ) (left : ℕ) (b : List ℕ) (r : ℕ) : Type 0 where
  pub put : Puts a at u b r
  pub fits : at + length u + left ≤ length a

pub told_none : (a : List ℕ) (at left : ℕ) → at + left ≤ length a → Told a at [] left a at
told_none a at left fits = record { put = puts_none a at; fits = omega arith }

-- A piece that takes at most `n` of the room.
pub told_then :
    {a : List ℕ} {at : ℕ} {u : List ℕ} (v : List ℕ) (n left : ℕ) {b c : List ℕ} {r q : ℕ}
    → Told a at u (n + left) b r
    → length v ≤ n
    → Puts b r v c q
    → Told a at (u ++ v) left c q
told_then {a} {at} {u} v n left told short put =
    record { put = puts_then a at u v (omega (arith, told.fits)) told.put put; fits = omega (arith, told.fits, length-append u v) }

-- The run keeps its length.
pub told_length : {a : List ℕ} {at : ℕ} {u : List ℕ} {left : ℕ} {b : List ℕ} {r : ℕ} → Told a at u left b r → length b ≡ length a
told_length {a} {at} {u} told = puts_length a at u (omega (arith, told.fits)) told.put

-- There is room for a piece of `n` octets.
pub told_room : {a : List ℕ} {at : ℕ} {u : List ℕ} {left : ℕ} {b : List ℕ} {r : ℕ} (n : ℕ) → n ≤ left → Told a at u left b r → r + n ≤ length b
told_room n less told = omega (arith, told.fits, told.put.1, told_length told)

-- The first digit of a number, and each one behind the digits of its tenth.
pub told_digit :
    {a : List ℕ} {at : ℕ} (n left : ℕ) {b : List ℕ} {r : ℕ}
    → at + (1 + left) ≤ length a
    → n < 10
    → Puts a at (digit n ∷ []) b r
    → Told a at (decimal n) left b r
told_digit {a} {at} n left {b} {r} fits small put =
    subst
    (λ (u : List ℕ). Told a at u left b r)
    (sym (decimal_small n small))
    (told_then (digit n ∷ []) 1 left (told_none a at (1 + left) fits) (omega arith) put)

pub told_digits :
    {a : List ℕ} {at : ℕ} (tenth n left : ℕ) {b c : List ℕ} {r q : ℕ}
    → tenth ≡ n / 10
    → 10 ≤ n
    → n < 10 ^ 20
    → Told a at (decimal tenth) (1 + left) b r
    → Puts b r (digit n ∷ []) c q
    → Told a at (decimal n) left c q
told_digits {a} {at} tenth n left {b} {c} {r} {q} is large fits told put =
    subst
    (λ (u : List ℕ). Told a at u left c q)
    (ap (λ (m : ℕ). decimal m ++ (digit n ∷ [])) is ∙ sym (decimal_more n large fits))
    (told_then (digit n ∷ []) 1 left told (omega arith) put)
