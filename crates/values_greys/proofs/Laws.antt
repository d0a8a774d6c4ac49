-- The laws of greys in a lent run: which integers have one, and a stretch of the run that was lent on and came back with a row of them.
use mathlib.Core.Path.{◌≡◌, refl, sym, ap, ap₂, ◌∙◌}
use mathlib.Core.List.{List, [], ◌∷◌, ◌++◌, append_assoc}
use Prim.Native.Nat.{ℕ, zero, suc, ◌+◌, ◌*◌, ◌/◌, ◌≤◌, ◌<◌}
use native.Mathlib.Nat.{div-le_self}
use native.Mathlib.Omega.{arith}
use borrow.Author.Tests.{ltb-true, ltb-false}
use borrow.Rule.Slice.PartMut.{put_mid}
use lib.Dec.{eqb, ltb}
use lib.ListN.{length, take, drop, get_or, set, length-append, length-drop, take-append-drop}
use lib.Seq.{length-take-le, set_at, drop-cons, ext_get_or}
use Rattle.octets.proofs.Cases.{split}
use Rattle.bits.specs.Bits.{bits_at}
use Rattle.laws_rows.specs.Rows.{row, filled}
use Rattle.laws_rows.proofs.Laws.{row_length, row_at}
use Rattle.greys.specs.declared.Scale.{Scale}
use Rattle.greys.specs.Greys.{ScaledTo, Below}
use Rattle.values_integers.specs.Integers.{simple_integer}
use Rattle.values_greys.specs.Packed.{packed_grey}

-- An integer that is counted among those no larger than the scale's largest has a grey.
pub grey_asked : (scale : Scale) {x : ℕ → ℕ} {n integer : ℕ} (m : ℕ) → ScaledTo scale × Below scale x n → integer ≡ x m → m < n → ScaledTo scale × (integer ≤ scale.largest)
grey_asked scale m asked same h = (asked.0, rw same (asked.1 m (omega (arith, h))))

-- A stretch that comes back with a row is filled with it.
pub stretch_filled : {A : Type 0} (f : ℕ → A) (at n : ℕ) (run : List A) → at + n ≤ length run → put_mid at n run (row (λ i. f (at + i)) n) ≡ filled f at n run
unfolding filled row
stretch_filled f at zero run h = take-append-drop at run
stretch_filled {A} f at (suc n) run h =
    let v : A = f (at + n) in
    let before : List A = take at run in
    let stretch : List A = row (λ i. f (at + i)) n in
    let behind : List A = drop (suc n) (drop at run) in
    let long : length (before ++ stretch) ≡ at + n = length-append before stretch ∙ ap₂ (λ (a b : ℕ). a + b) (length-take-le at run (omega arith)) (row_length (λ i. f (at + i)) n) in
    ap (λ (rest : List A). before ++ rest) (append_assoc stretch (v ∷ []) behind)
    ∙ sym (append_assoc before stretch (v ∷ behind))
    ∙ sym (set_at (before ++ stretch) (get_or (drop at run) n v) behind v (at + n) long)
    ∙ ap (λ (r : List A). set r (at + n) v) (append_assoc before stretch (get_or (drop at run) n v ∷ behind))
    ∙ ap (λ (rest : List A). set (before ++ (stretch ++ rest)) (at + n) v) (sym (drop-cons (drop at run) n v (omega (arith, length-drop at run))))
    ∙ ap (λ (r : List A). set r (at + n) v) (stretch_filled f at n run (omega arith))

-- An integer of no bits is 0, and has the grey 1.
pub no_bits_grey : (run : List ℕ) (scale : Scale) {bits : ℕ} → bits ≡ 0 → (m : ℕ) → 1 ≡ packed_grey scale (simple_integer run bits) m
unfolding bits_at
no_bits_grey run scale none m = rw none (split (eqb scale.largest 0) (λ is. rw is refl) (λ not. rw not (omega (arith, zero_over scale.largest))))
  where
    zero_over : (n : ℕ) → 254 * 0 / n ≡ 0
    zero_over n = omega (arith, div-le_self (254 * 0) n)

-- The first i octets and as many of the last ones are 1, and those between them are left.
pub record Ends (n i : ℕ) (greys : List ℕ) : Type 0 where
  pub long : length greys ≡ n
  pub first : (j : ℕ) → j < i → get_or greys j 0 ≡ 1
  pub last : (j : ℕ) → n ≤ j + i → j < n → get_or greys j 0 ≡ 1

-- Where they meet, all are 1.
pub ends_all : {n i : ℕ} {greys : List ℕ} → Ends n i greys → n ≤ i + i → greys ≡ row (λ _. 1) n
ends_all {n} {i} {greys} e h =
    ext_get_or 0 greys (row (λ _. 1) n) (e.long ∙ sym (row_length (λ _. 1) n))
    (λ j l.
    split (ltb j i) (λ low. e.first j (ltb-true j i low)) (λ high. e.last j (omega (arith, h, ltb-false j i high)) (omega (arith, l, e.long)))
    ∙ sym (row_at (λ _. 1) n j 0 (omega (arith, l, e.long))))
