-- The laws of what is put into a run: pieces that are put one behind the other are put as one piece, and a run keeps its length.
use mathlib.Core.Path.{◌≡◌, sym, ap, ap₂, ◌∙◌}
use mathlib.Core.List.{List, [], ◌++◌, append_assoc, append-nil}
use Prim.Native.Nat.{ℕ, ◌+◌, ◌≤◌}
use native.Mathlib.Nat.{add-zero}
use native.Mathlib.Omega.{arith}
use lib.ListN.{length, take, drop, length-append, length-drop, take-append-drop}
use lib.Seq.{length-take-le, take_at, drop-append-add, drop-drop}
use Rattle.laws_rows.specs.Rows.{laid, Puts}

module _ {A : Type 0} where
  -- Where nothing is put, the run and the place stay.
  pub puts_none : (a : List A) (at : ℕ) → Puts a at [] a at
  puts_none a at = (
    sym (ap (λ (k : ℕ). take at a ++ [] ++ drop k a) (add-zero at) ∙ ap (λ (front : List A). front ++ drop at a) (append-nil (take at a)) ∙ take-append-drop at a),
    sym (add-zero at),
  )

  -- What is put, with what lies before it, is as long as its place and itself.
  front_length : (a : List A) (at : ℕ) (u : List A) → at + length u ≤ length a → length (take at a ++ u) ≡ at + length u
  front_length a at u fits = rw (length-append (take at a) u, length-take-le at a (omega arith))

  -- A run keeps its length.
  laid_length : (a : List A) (at : ℕ) (u : List A) → at + length u ≤ length a → length (laid a at u) ≡ length a
  laid_length a at u fits =
      rw (length-append (take at a ++ u) (drop (at + length u) a), front_length a at u fits, length-drop (at + length u) a) (omega arith)

  pub puts_length : (a : List A) (at : ℕ) (u : List A) {b : List A} {r : ℕ} → at + length u ≤ length a → Puts a at u b r → length b ≡ length a
  puts_length a at u fits put = ap length put.0 ∙ laid_length a at u fits

  -- A piece that is put right behind another one: both are put as one piece.
  laid_then : (a : List A) (at : ℕ) (u v : List A) → at + length u ≤ length a → laid (laid a at u) (at + length u) v ≡ laid a at (u ++ v)
  laid_then a at u v fits =
      let front : List A = take at a ++ u in
      let behind : List A = drop (at + length u) a in
      let long : length front ≡ at + length u = front_length a at u fits in
      let rest : drop (at + length u + length v) (front ++ behind) ≡ drop (length v) behind = ap (λ (k : ℕ). drop (k + length v) (front ++ behind)) (sym long) ∙ drop-append-add front behind (length v) in
      let place : at + length u + length v ≡ at + length (u ++ v) = omega (arith, length-append u v) in
      ap₂ (λ (x y : List A). x ++ v ++ y) (take_at front behind (at + length u) long) (rest ∙ drop-drop (length v) (at + length u) a)
      ∙ ap₂ (λ (x : List A) (k : ℕ). x ++ drop k a) (append_assoc (take at a) u v) place

  pub puts_then :
      (a : List A) (at : ℕ) (u v : List A) {b c : List A} {r q : ℕ}
      → at + length u + length v ≤ length a
      → Puts a at u b r
      → Puts b r v c q
      → Puts a at (u ++ v) c q
  puts_then a at u v fits first second = (
    second.0 ∙ ap₂ (λ (run : List A) (place : ℕ). laid run place v) first.0 first.1 ∙ laid_then a at u v (omega arith),
    omega (arith, first.1, second.1, length-append u v),
  )
