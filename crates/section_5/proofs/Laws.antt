-- What a caller may rely on where a section 5 is taken: the limits of R, E, D and the bits of a number, and those of the groups of template 5.3.
use mathlib.Core.Path.{◌≡◌, ap, sym, subst, ◌∙◌}
use mathlib.Core.Bool.{true}
use mathlib.Core.List.{List}
use Prim.Native.Nat.{ℕ, ◌≤◌}
use Rattle.octets.proofs.Cases.{apart, split}
use Rattle.section.specs.Sections.{held}
use Rattle.doubles.specs.Doubles.{Scaled}
use Rattle.section_5_groups.specs.declared.Grouping.{Grouping}
use Rattle.section_5_groups.specs.Groups.{grouping_at, is_grouping}
use Rattle.section_5_groups.proofs.Laws.{Grouped, grouped}
use Rattle.section_5.specs.declared.Template.{Template}
use Rattle.section_5.specs.declared.Representation.{Representation}
use Rattle.section_5.specs.Representation.{representation_with, is_scaled, data_template_at, represented_by, representation_at}
use Rattle.section_5.proofs.Tests.{limited, complex_is_grouped}
use Rattle.std.specs.Prelude.{Option, Some, None}

-- What a representation that is said was read from.
record ReadFrom (file : List ℕ) (s : ℕ) (r : Representation) (reading : Option Template) : Type 0 where
  template : reading ≡ Some r.template
  scaled : is_scaled file s ≡ true
  whole : representation_with file s r.template ≡ r

module _ (file : List ℕ) (s : ℕ) where
  read_from_lem : {r : Representation} (reading : Option Template) → represented_by file s reading ≡ Some r → ReadFrom file s r reading
  read_from_lem {r} (Some t) said =
      split (is_scaled file s)
      (λ e.
      let same : representation_with file s t ≡ r = cc in
      let template : t ≡ r.template = ap (λ (r : Representation). r.template) same in
      record { template = ap (λ (t : Template). Some t) template; scaled = e; whole = ap (representation_with file s) (sym template) ∙ same })
      (λ e. apart cc)
  read_from_lem {r} None said = apart cc

  is_read : {r : Representation} → representation_at file s ≡ Some r → ReadFrom file s r (data_template_at file s)
  unfolding representation_at
  is_read said = read_from_lem (data_template_at file s) said

  -- What is taken has its numbers within their limits.
  pub represented : {r : Representation} → representation_at file s ≡ Some r → Scaled r.r r.e r.d
  represented said =
      let from = is_read said in
      subst (λ (r : Representation). Scaled r.r r.e r.d) from.whole (limited file s from.scaled).scaled

  pub represented_bits : {r : Representation} → representation_at file s ≡ Some r → r.bits ≤ 31
  represented_bits said =
      let from = is_read said in
      subst (λ (r : Representation). r.bits ≤ 31) from.whole (limited file s from.scaled).bits31

  -- Its groups, where it has template 5.3, are those that the octets tell.
  groups_read : {r : Representation} {g : Grouping} → representation_at file s ≡ Some r → r.template ≡ Template.Complex g → (grouping_at file s ≡ g) × (is_grouping (grouping_at file s) (held file s 6 9) ≡ true)
  groups_read {r} {g} said complex = complex_is_grouped file s ((is_read said).template ∙ ap (λ (t : Template). Some t) complex)

  -- The groups of template 5.3 are within theirs.
  pub represented_groups : {r : Representation} {g : Grouping} → representation_at file s ≡ Some r → r.template ≡ Template.Complex g → Grouped g r.n
  represented_groups {r} {g} said complex =
      let groups = groups_read said complex in
      let count : held file s 6 9 ≡ r.n = ap (λ (r : Representation). r.n) (is_read said).whole in
      subst (λ (n : ℕ). Grouped g n) count
      (subst (λ (g : Grouping). Grouped g (held file s 6 9)) groups.0 (grouped (grouping_at file s) (held file s 6 9) groups.1))
