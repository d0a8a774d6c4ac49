-- What is known of a field that is described: its numbers are within their limits, and its groups are sound.
use mathlib.Core.Path.{◌≡◌, refl, sym, ap, subst, ◌∙◌}
use mathlib.Core.Bool.{true}
use mathlib.Core.List.{List}
use Prim.Native.Nat.{ℕ, ◌+◌, ◌-◌, ◌*◌, ◌^◌, ◌≤◌, ◌<◌}
use native.Mathlib.Nat.{lt_of_lt_of_le, mod-lt}
use native.Mathlib.Omega.{arith}
use borrow.Author.Tests.{le-leb}
use lib.Pow.{pow_pos, pow_mono}
use Rattle.octets.specs.Numbers.{top_bit}
use Rattle.octets.proofs.Cases.{apart}
use Rattle.section.specs.Sections.{Lies, octets_in, held}
use Rattle.doubles.specs.Doubles.{Scaled}
use Rattle.tiling_sections.specs.declared.Located.{Located}
use Rattle.tiling_sections.specs.declared.Starts.{Starts}
use Rattle.tiling_sections.specs.Laid.{Laid}
use Rattle.section_3_geometry.specs.Geometry.{points_of}
use Rattle.section_5_groups.specs.declared.Grouping.{Grouping}
use Rattle.section_5_groups.proofs.Laws.{Grouped}
use Rattle.section_5.specs.declared.Template.{Template}
use Rattle.section_5.proofs.Laws.{represented, represented_bits, represented_groups}
use Rattle.section_6.specs.declared.Presence as declared
use Rattle.section_6.specs.declared.Presence.TheVariants as Presence
use Rattle.section_6.specs.Presence.{present_before, presence_at, bitmap_in_force, BitmapLies}
use Rattle.section_6.proofs.Laws.{marked_present, marked_most, marked_own, marked_earlier}
use Rattle.section_7_layout.proofs.Laws.{stored_fits}
use Rattle.section_7.specs.declared.Groups.{Groups}
use Rattle.section_7.specs.declared.Data.TheVariants as Data
use Rattle.section_7.specs.Packing.{groups_in, data_at}
use Rattle.section_7.proofs.Laws.{packed_simple, packed_complex, packed_plan, limited}
use Rattle.values_integers.specs.Integers.{simple_integer, are_in_range}
use Rattle.values_integers.proofs.Range.{in_range_all}
use Rattle.values_complex.specs.Complex.{values_in, integer_in, Sound}
use Rattle.question.specs.declared.Description.{Description}
use Rattle.question.specs.Judged.{Judged}
use Rattle.question.specs.Judge.{Known, integer_of, is_decodable}
use Rattle.question.proofs.Laws.{FieldOf, described, described_laid, described_grid}
use Rattle.std.specs.Prelude.{Some}
use Rattle.octets.specs.declared.FilePlace.{FilePlace}
use Rattle.question.specs.declared.DescribedField.{DescribedField}

-- The description that a field has is known.
pub known_of : (f : DescribedField) → Known f.file.now f.description
known_of f = (f.k, f.described)

module _ (file : List ℕ) (d : Description) (known : Known file d) where
  abbrev seven : ℕ
  seven = d.starts.seven.0

  abbrev pub run : List ℕ
  run = octets_in file seven

  abbrev points : ℕ
  points = points_of d.grid

  -- Where the field lies, and what was judged of its sections.
  pub located : (l : Located) × FieldOf file known.0 l × Judged file l d
  located = described file known.0 known.1

  pub judged : Judged file located.0 d
  judged = located.2

  pub sections_laid : Laid file located.0
  sections_laid = (described_laid file known.0 located.1).1

  pub seven_lies : Lies file seven
  seven_lies = subst (λ (s : Starts). Lies file s.seven.0) (sym judged.of_starts) sections_laid.seven

  pub few_points : points ≤ 16777216
  few_points = (described_grid file known.0 known.1).2

  pub scaled : Scaled d.representation.r d.representation.e d.representation.d
  scaled = represented file located.0.starts.five.0 judged.of_five

  pub bits_fit : d.representation.bits ≤ 31
  bits_fit = represented_bits file located.0.starts.five.0 judged.of_five

  -- As many values are packed as points are present.
  pub packed_present : d.representation.n ≡ present_before file d.presence points points
  packed_present = marked_present file located.0.starts.six.0 located.0.bitmap points d.representation.n judged.of_six

  pub packed_most : d.representation.n ≤ points
  packed_most = marked_most file located.0.starts.six.0 located.0.bitmap points d.representation.n judged.of_six

  -- The bitmap that tells which points are present, where it does.
  abbrev pub bitmap : List ℕ
  bitmap = bitmap_in_force file d.presence points

  pub bitmap_lies : BitmapLies file d.presence points
  bitmap_lies = by d.presence refl
    where
      taken : (p : declared.Presence) → d.presence ≡ p → presence_at file located.0.starts.six.0 located.0.bitmap points d.representation.n ≡ Some p
      taken p e = judged.of_six ∙ ap Some e

      by : (p : declared.Presence) → d.presence ≡ p → BitmapLies file p points
      by Presence.All e = refl
      by (Presence.Own s) e =
          let told = marked_own file located.0.starts.six.0 located.0.bitmap points d.representation.n (taken (Presence.Own s) e) in
          (subst (λ (p : FilePlace). Lies file p.0) (sym told.0) sections_laid.six, told.1)
      by (Presence.Earlier s) e =
          let told = marked_earlier file located.0.starts.six.0 located.0.bitmap points d.representation.n (taken (Presence.Earlier s) e) in
          (sections_laid.stored s told.0, told.1)

  holds : data_at file seven d.representation ≡ Some d.plan
  holds = subst (λ (s : Starts). data_at file s.seven.0 d.representation ≡ Some d.plan) (sym judged.of_starts) judged.of_seven

  -- What section 7 holds is of the template that section 5 tells.
  pub simple_template : d.plan ≡ Data.Simple → d.representation.template ≡ Template.Simple
  simple_template e = by d.representation.template refl
    where
      by : (t : Template) → d.representation.template ≡ t → t ≡ Template.Simple
      by Template.Simple is = refl
      by (Template.Complex g) is = let other = (packed_complex file seven d.representation g holds is).0 in apart cc

  pub complex_template : {groups : Groups} → d.plan ≡ Data.Complex groups → (g : Grouping) × (d.representation.template ≡ Template.Complex g) × (groups ≡ groups_in file seven d.representation.bits g)
  complex_template {groups} e = by d.representation.template refl
    where
      by : (t : Template) → d.representation.template ≡ t → (g : Grouping) × (d.representation.template ≡ Template.Complex g) × (groups ≡ groups_in file seven d.representation.bits g)
      by Template.Simple is = let other = (packed_simple file seven d.representation holds is).0 in apart cc
      by (Template.Complex g) is = let same = (packed_complex file seven d.representation g holds is).0 in (g, is, cc)

  -- The numbers of simple packing are all in their range.
  pub simple_decodable : d.plan ≡ Data.Simple → is_decodable file d ≡ true
  simple_decodable e =
      in_range_all (integer_of file d) d.representation.n
      (λ j h. rw (simple_template e) (le-leb (simple_integer run d.representation.bits j) 2147483647 (omega (arith, stored_fits run (40 + j * d.representation.bits) bits_fit))))

  module _ (g : Grouping) (e : d.representation.template ≡ Template.Complex g) where
    grouped : Grouped g d.representation.n
    grouped = represented_groups file located.0.starts.five.0 judged.of_five e

    abbrev planned : Groups
    planned = groups_in file seven d.representation.bits g

    -- As many values are in the groups as are packed.
    values_packed : values_in run planned ≡ d.representation.n
    values_packed = (packed_plan file seven d.representation g holds e).1

    zmin_fits_lem : planned.differencing.zmin.size < 2 ^ 31
    zmin_fits_lem =
        let octets : ℕ = 5 + 3 * g.extra + 1 - (6 + 2 * g.extra) in
        lt_of_lt_of_le (mod-lt (held file seven (6 + 2 * g.extra) (5 + 3 * g.extra)) {m = top_bit octets} (pow_pos (8 * octets - 1))) (pow_mono {j = 31} (omega (arith, grouped.extra4)))

    sound : Sound run planned
    sound =
        record {
          placed = refl;
          limited = rw e at (limited file located.0.starts.five.0 d.representation judged.of_five);
          groups_fit = omega (arith, grouped.groups_n, packed_most, few_points);
          sound = (packed_plan file seven d.representation g holds e).0;
          two_values = omega (arith, grouped.values2, values_packed);
          few_values = omega (arith, values_packed, packed_most, few_points);
          zmin_fits = zmin_fits_lem;
        }

    integers : (m : ℕ) → integer_in run planned m ≡ integer_of file d m
    integers m = rw e

    decodable : are_in_range (integer_in run planned) (values_in run planned) ≡ is_decodable file d
    decodable = rw (values_packed, e)

  -- The groups that section 7 holds: they are sound, they have as many values as are packed, and the field's integers are theirs.
  module _ {groups : Groups} (e : d.plan ≡ Data.Complex groups) where
    pub groups_sound : Sound run groups
    groups_sound = let t = complex_template e in subst (Sound run) (sym t.2) (sound t.0 t.1)

    pub groups_values : values_in run groups ≡ d.representation.n
    groups_values = let t = complex_template e in subst (λ (x : Groups). values_in run x ≡ d.representation.n) (sym t.2) (values_packed t.0 t.1)

    pub groups_integers : (m : ℕ) → integer_in run groups m ≡ integer_of file d m
    groups_integers m = let t = complex_template e in subst (λ (x : Groups). integer_in run x m ≡ integer_of file d m) (sym t.2) (integers t.0 t.1 m)

    pub groups_decodable : are_in_range (integer_in run groups) (values_in run groups) ≡ is_decodable file d
    groups_decodable =
        let t = complex_template e in
        subst (λ (x : Groups). are_in_range (integer_in run x) (values_in run x) ≡ is_decodable file d) (sym t.2) (decodable t.0 t.1)
