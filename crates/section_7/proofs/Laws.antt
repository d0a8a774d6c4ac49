-- The laws of section 7, each once: sound groups take at most 31 bits a value, and a section that is taken ends with the last of its values.
use mathlib.Core.Path.{◌≡◌, refl, ap}
use mathlib.Core.Bool.{Bool, true, false, ◌&&◌, cond}
use mathlib.Core.List.{List}
use Prim.Native.Nat.{ℕ, zero, suc, ◌+◌, ◌-◌, ◌*◌, ◌≤◌, ◌<◌}
use native.Mathlib.Nat.{mul-le-mul_right}
use native.Mathlib.Numerals.{add-one}
use native.Mathlib.Omega.{arith}
use borrow.Author.Tests.{le-leb, leb-true, eqb-true, eqb-false}
use lib.Dec.{eqb}
use Rattle.octets.proofs.Cases.{apart, split, both}
use Rattle.section.specs.Sections.{length_at, octets_in}
use Rattle.bits.specs.Bits.{octets_of}
use Rattle.section_5_groups.specs.declared.Grouping.{Grouping}
use Rattle.section_5.specs.declared.Representation.{Representation}
use Rattle.section_5.specs.declared.Template.{Template}
use Rattle.section_5.specs.Representation.{representation_at}
use Rattle.section_5.proofs.Laws.{represented_bits, represented_groups}
use Rattle.section_7_layout.specs.declared.Layout.{Layout}
use Rattle.section_7_layout.specs.Runs.{layout_of, packed_from, width_of, length_of}
use Rattle.section_7.specs.declared.Data.{Data}
use Rattle.section_7.specs.Packing.{simple_length, values_before, bits_before, are_sound, plan_of, ends_with, is_grouped, groups_in, data_at, LimitedBy}
use Rattle.std.specs.Prelude.{Some, None}

module _ (run : List ℕ) (at : Layout) (g : Grouping) where
  -- Groups are sound if those before the last are, and it has at most 31 bits and at least one value.
  sound_parts : (i : ℕ) → are_sound run at g (suc i) ≡ true → (are_sound run at g i ≡ true) × (width_of run at g i ≤ 31) × (1 ≤ length_of run at g i)
  unfolding are_sound
  sound_parts i e =
      let length = both _ _ e in
      let width = both _ _ length.0 in
      (width.0, leb-true _ _ width.1, leb-true _ _ length.1)

  pub sound_more : (i : ℕ) → are_sound run at g i ≡ true → width_of run at g i ≤ 31 → 1 ≤ length_of run at g i → are_sound run at g (i + 1) ≡ true
  unfolding are_sound
  sound_more i e h k = rw (add-one i) (simp (e, le-leb _ _ h, le-leb _ _ k))

  -- Of sound groups each has a width of at most 31 and a length of at least 1.
  pub sound_widths : (n : ℕ) {i : ℕ} → are_sound run at g n ≡ true → i < n → (width_of run at g i ≤ 31) × (1 ≤ length_of run at g i)
  sound_widths zero e h = absurd (omega arith)
  sound_widths (suc n) {i} e h =
      let parts = sound_parts n e in
      split (eqb i n) (λ last. rw (eqb-true i n last) (parts.1, parts.2)) (λ before. sound_widths n parts.0 (omega (arith, eqb-false i n before)))

  -- One group more.
  pub values_more : (i : ℕ) → values_before run at g (i + 1) ≡ values_before run at g i + length_of run at g i
  unfolding values_before
  values_more i = ap (values_before run at g) (add-one i)

  pub bits_more : (i : ℕ) → bits_before run at g (i + 1) ≡ bits_before run at g i + width_of run at g i * length_of run at g i
  unfolding bits_before
  bits_more i = ap (bits_before run at g) (add-one i)

  -- More groups have no fewer values.
  pub values_mono : {i : ℕ} (j : ℕ) → i ≤ j → values_before run at g i ≤ values_before run at g j
  unfolding values_before
  values_mono {i} zero h = let none : i ≡ 0 = omega arith in rw none (omega arith)
  values_mono {i} (suc j) h =
      split (eqb i (suc j)) (λ all. rw (eqb-true i (suc j) all) (omega arith)) (λ fewer. omega (arith, values_mono {i = i} j (omega (arith, eqb-false i (suc j) fewer))))

  -- Sound groups take at most 31 bits a value.
  pub bits_of_values : (i : ℕ) → are_sound run at g i ≡ true → bits_before run at g i ≤ 31 * values_before run at g i
  unfolding bits_before values_before
  bits_of_values zero e = omega arith
  bits_of_values (suc i) e =
      let parts = sound_parts i e in
      let group : width_of run at g i * length_of run at g i ≤ 31 * length_of run at g i = mul-le-mul_right (length_of run at g i) parts.1 in
      omega (arith, bits_of_values i parts.0)

  -- Groups that are not sound, or that have not n values, have no plan.
  pub plan_bad : {n : ℕ} → (are_sound run at g g.groups ≡ true → values_before run at g g.groups ≡ n → ⊥) → plan_of run at g n ≡ None
  plan_bad {n} out =
      split (are_sound run at g g.groups && eqb (values_before run at g g.groups) n)
      (λ e. let parts = both _ _ e in absurd (out parts.0 (eqb-true _ _ parts.1)))
      (λ e. rw e)

  -- A section with groups ends where their plan says.
  ends_by_plan : {length n : ℕ} → ends_with length at (plan_of run at g n) ≡ true →
      (are_sound run at g g.groups ≡ true) × (values_before run at g g.groups ≡ n) × (length ≡ at.packed.0 - 1 + octets_of (bits_before run at g g.groups))
  ends_by_plan {length} {n} e =
      split (are_sound run at g g.groups && eqb (values_before run at g g.groups) n)
      (λ good. let parts = both _ _ good in (parts.0, eqb-true _ _ parts.1, eqb-true _ _ (rw good at e)))
      (λ bad. let ends : false ≡ true = rw bad at e in apart cc)

-- Where a test decides whether data are taken, it holds where some are, and they are those.
taken : (test : Bool) {held d : Data} → cond test (Some held) None ≡ Some d → (d ≡ held) × (test ≡ true)
taken true e = (cc, refl)
taken false e = apart cc

-- What a section holds, where it is taken: packed simply, it ends with its values.
pub packed_simple : (file : List ℕ) (s : ℕ) (r : Representation) {d : Data} → data_at file s r ≡ Some d → r.template ≡ Template.Simple →
    (d ≡ Data.Simple) × (length_at file s ≡ simple_length r.n r.bits)
unfolding data_at
packed_simple file s r {d} e t =
    let said = taken (eqb (length_at file s) (simple_length r.n r.bits)) (rw t at e) in
    (said.0, eqb-true _ _ said.1)

-- Packed in groups, it holds these, and they are sound, have as many values as they must, and end with the section.
pub packed_complex : (file : List ℕ) (s : ℕ) (r : Representation) (g : Grouping) {d : Data} → data_at file s r ≡ Some d → r.template ≡ Template.Complex g →
    (d ≡ Data.Complex (groups_in file s r.bits g)) × (is_grouped file s r.n r.bits g ≡ true)
unfolding data_at
packed_complex file s r g e t = taken (is_grouped file s r.n r.bits g) (rw t at e)

pub packed_plan : (file : List ℕ) (s : ℕ) (r : Representation) (g : Grouping) {d : Data} → data_at file s r ≡ Some d → r.template ≡ Template.Complex g →
    let run = octets_in file s in
    let at = layout_of r.bits g in
    (are_sound run at g g.groups ≡ true)
    × (values_before run at g g.groups ≡ r.n)
    × (length_at file s ≡ packed_from r.bits g - 1 + octets_of (bits_before run at g g.groups))
packed_plan file s r g e t = ends_by_plan (octets_in file s) (layout_of r.bits g) g (packed_complex file s r g e t).1

-- A section 5 that is taken leaves section 7 within the limits that its plan needs.
pub limited : (file : List ℕ) (s : ℕ) (r : Representation) → representation_at file s ≡ Some r → LimitedBy r.bits r.template
limited file s r e = by r.template refl
  where
    by : (t : Template) → r.template ≡ t → LimitedBy r.bits t
    by Template.Simple same = represented_bits file s e
    by (Template.Complex g) same =
        let grouped = represented_groups file s e same in
        record {
          of_numbers = represented_bits file s e;
          of_widths = grouped.width31;
          of_width_bits = grouped.width_bits31;
          of_length_bits = grouped.length_bits31;
          least_extra = grouped.extra1;
          of_extra = grouped.extra4;
        }
