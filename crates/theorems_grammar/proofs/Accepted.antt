-- The theorems `tiles_so` and `counts`: the reading of a file finds what the grammar describes, and of no other file; and the question check answers its
-- counts.
use Prim.Native.Nat.{ℕ}
use mathlib.Core.Path.{◌≡◌, refl, ap, subst, ◌∙◌}
use mathlib.Core.List.{List}
use mathlib.Core.Logic.{◌↔◌}
use lib.ListN.{length}
use Rattle.std.specs.Prelude.{Ok}
use Rattle.octets.proofs.Cases.{apart}
use Rattle.tiling_sections.specs.declared.Located.{Located}
use Rattle.tiling.specs.declared.Counts.{Counts}
use Rattle.tiling.specs.Tiling.{InFile, tiled, refused, tiling_of, checked, check, both_counts}
use Rattle.tiling.proofs.Laws.{Whole, whole}
use Rattle.theorems_grammar.specs.Grammar.{Accepted}
use Rattle.theorems_grammar.proofs.Complete.{accepted_complete}
use Rattle.theorems_grammar.proofs.Sound.{accepted_sound}

module _ (file : List ℕ) where
  -- The reading finds these messages and fields exactly where the grammar tiles the file so.
  pub tiles_so : (m : ℕ) (fs : List Located) → (tiling_of file ≡ tiled m fs) ↔ Accepted file m fs
  tiles_so m fs = (λ h. accepted_sound (subst (Whole file) h (whole file)), accepted_complete)

  -- The question check answers the counts of messages and fields of the tiling, where there is one.
  pub counts : (m n : ℕ) → (check file ≡ Ok (both_counts m n)) ↔ ((fs : List Located) × Accepted file m fs × (length fs ≡ n))
  counts m n = (by (tiling_of file) refl, λ h. ap checked (accepted_complete h.1) ∙ ap (λ (n : ℕ). Ok (both_counts m n)) h.2)
    where
      by : (o : InFile) → tiling_of file ≡ o → checked o ≡ Ok (both_counts m n) → (fs : List Located) × Accepted file m fs × (length fs ≡ n)
      by (tiled k fs) is h =
          let same : both_counts k (length fs) ≡ both_counts m n = cc in
          (fs, subst (λ (x : ℕ). Accepted file x fs) (ap (λ (c : Counts). c.messages) same) ((tiles_so k fs).0 is), ap (λ (c : Counts). c.fields) same)
      by (refused f) is h = apart cc
