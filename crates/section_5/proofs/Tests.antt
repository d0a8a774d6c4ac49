-- What the tests of section 5 tell.
use mathlib.Core.Path.{◌≡◌, sym, subst, ◌∙◌}
use mathlib.Core.Bool.{true, false, ◌&&◌}
use mathlib.Core.List.{List}
use Prim.Native.Nat.{ℕ, ◌≤◌}
use borrow.Author.Tests.{leb-true}
use lib.Dec.{T, eqb, leb}
use lib.Ieee.{binary32, of_bits}
use lib.Ieee.Scale.{finite}
use Rattle.octets.proofs.Cases.{apart, split, both}
use Rattle.section.specs.Sections.{octet, held, held_signed, length_at}
use Rattle.doubles.specs.Doubles.{Scaled}
use Rattle.section_5_groups.specs.declared.Grouping.{Grouping}
use Rattle.section_5_groups.specs.Groups.{grouping_at, is_differenced, is_grouping}
use Rattle.section_5.specs.declared.Template.{Template}
use Rattle.section_5.specs.Representation.{is_scaled, complex_at, data_template_at}
use Rattle.std.specs.Prelude.{Some, None}

-- A template that is read is one alone, and what is bad is none.
never_read : {A : Type 0} {t : Template} → None ≡ Some t → A
never_read {A} {t} e = apart cc

never_simple : {A : Type 0} {g : Grouping} → Some Template.Simple ≡ Some (Template.Complex g) → A
never_simple {A} {g} e = apart cc

same_groups : {g h : Grouping} → Some (Template.Complex g) ≡ Some (Template.Complex h) → g ≡ h
same_groups e = cc

-- What `is_scaled` tells, but for octet 21.
pub record Limited (file : List ℕ) (s : ℕ) : Type 0 where
  pub scaled : Scaled (held file s 12 15) (held_signed file s 16 17) (held_signed file s 18 19)
  pub bits31 : octet file s 20 ≤ 31

module _ (file : List ℕ) (s : ℕ) where
  pub limited : is_scaled file s ≡ true → Limited file s
  limited e =
      let doubles = both _ (eqb (octet file s 21) 0) e in
      let bits31 = both _ (leb (octet file s 20) 31) doubles.0 in
      let d22 = both _ (leb (held_signed file s 18 19).size 22) bits31.0 in
      let e127 = both (finite (of_bits binary32 (held file s 12 15))) (leb (held_signed file s 16 17).size 127) d22.0 in
      record {
        scaled = record { finite_r = subst T (sym e127.0) tt; e127 = leb-true _ _ e127.1; d22 = leb-true _ _ d22.1 };
        bits31 = leb-true _ _ bits31.1;
      }

  -- What template 5.3 is read as follows from the two tests.
  pub not_differenced : is_differenced file s ≡ false → complex_at file s ≡ None
  not_differenced e = simp e

  pub not_grouped : is_grouping (grouping_at file s) (held file s 6 9) ≡ false → complex_at file s ≡ None
  not_grouped e = split (is_differenced file s) (λ d. simp (d, e)) not_differenced

  pub differenced : is_differenced file s ≡ true → is_grouping (grouping_at file s) (held file s 6 9) ≡ true → complex_at file s ≡ Some (Template.Complex (grouping_at file s))
  differenced d e = simp (d, e)

  -- The groups of template 5.3 are those that the octets tell, and have passed their test.
  of_complex : {g : Grouping} → complex_at file s ≡ Some (Template.Complex g) → (grouping_at file s ≡ g) × (is_grouping (grouping_at file s) (held file s 6 9) ≡ true)
  of_complex read =
      split (is_differenced file s)
      (λ d.
      split (is_grouping (grouping_at file s) (held file s 6 9)) (λ grouped. (same_groups (sym (differenced d grouped) ∙ read), grouped))
      (λ fails. never_read (sym (not_grouped fails) ∙ read)))
      (λ d. never_read (sym (not_differenced d) ∙ read))

  pub complex_is_grouped : {g : Grouping} → data_template_at file s ≡ Some (Template.Complex g) → (grouping_at file s ≡ g) × (is_grouping (grouping_at file s) (held file s 6 9) ≡ true)
  complex_is_grouped read =
      split (eqb (length_at file s) 21 && eqb (held file s 10 11) 0) (λ simple. never_simple (rw simple at read))
      (λ other.
      split (eqb (length_at file s) 49 && eqb (held file s 10 11) 3) (λ complex. of_complex (rw (other, complex) at read))
      (λ none. never_read (rw (other, none) at read)))
