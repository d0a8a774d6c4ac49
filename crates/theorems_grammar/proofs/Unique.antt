-- The theorem `unique`: a file is tiled in one way only, and so is a message, by `message_unique`.
use Prim.Native.Nat.{ℕ}
use mathlib.Core.Path.{◌≡◌}
use mathlib.Core.List.{List}
use Rattle.tiling_sections.specs.declared.Located.{Located}
use Rattle.tiling_sections.specs.Walk.{passed}
use Rattle.tiling.specs.Tiling.{message, tiled, tiling_of}
use Rattle.theorems_grammar.specs.Grammar.{Message, Accepted}
use Rattle.theorems_grammar.proofs.Complete.{message_complete, accepted_complete}

module _ {file : List ℕ} where
  pub message_unique : {a b b' : ℕ} {fs fs' : List Located} → Message file a b fs → Message file a b' fs' → (b ≡ b') × (fs ≡ fs')
  message_unique {a} {b} {b'} {fs} {fs'} d d' =
      let given : message file a ≡ passed b fs = message_complete d in
      let given' : message file a ≡ passed b' fs' = message_complete d' in
      (cc, cc)

  pub unique : {m m' : ℕ} {fs fs' : List Located} → Accepted file m fs → Accepted file m' fs' → (m ≡ m') × (fs ≡ fs')
  unique {m} {m'} {fs} {fs'} d d' =
      let given : tiling_of file ≡ tiled m fs = accepted_complete d in
      let given' : tiling_of file ≡ tiled m' fs' = accepted_complete d' in
      (cc, cc)
