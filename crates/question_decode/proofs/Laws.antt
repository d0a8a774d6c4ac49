-- What is known of a field that is judged, for its decoding: its rows of doubles and marks are those that the fillings write.
use mathlib.Core.Path.{◌≡◌, refl, sym, ap, ap₂, ◌∙◌}
use mathlib.Core.List.{List}
use Prim.Native.Nat.{ℕ, ◌+◌, ◌≤◌, ◌<◌}
use native.Mathlib.Numerals.{add-one}
use native.Mathlib.Omega.{arith}
use lib.IntN.{nat_abs}
use lib.ListN.{length}
use Rattle.bits.proofs.Laws.{bit_lt}
use Rattle.laws_rows.proofs.Laws.{row_same}
use Rattle.section.specs.Sections.{octets_in}
use Rattle.tiling.specs.Tiling.{largest}
use Rattle.section_3_geometry.specs.Geometry.{points_of}
use Rattle.section_5.specs.declared.Template.TheVariants as Template
use Rattle.section_6.specs.declared.Presence as declared
use Rattle.section_6.specs.declared.Presence.TheVariants as Presence
use Rattle.section_6.specs.Presence.{present_at, present_before, BitmapLies}
use Rattle.section_7.specs.declared.Groups.{Groups}
use Rattle.section_7.specs.declared.Data.TheVariants as Data
use Rattle.values_points.specs.Points.{point_value, double_at}
use Rattle.values_points.specs.Written.{Marks, Runs, marks_in, Filled}
use Rattle.values_points.proofs.Laws.{rank_mono}
use Rattle.values_points.proofs.Marks.{Ranked, field_marks_lem, field_ranks}
use Rattle.values_integers.specs.Integers.{simple_integer}
use Rattle.values_complex.specs.Complex.{size_in}
use Rattle.question.specs.declared.Description.{Description}
use Rattle.question.specs.Judge.{Asks, Known, integer_of, judge}
use Rattle.question.proofs.Laws.{judge_placed, judged_values}
use Rattle.question.proofs.Known.{few_points, bitmap, bitmap_lies, packed_present, simple_template, groups_integers}
use Rattle.question_decode.specs.Decoding.{packing_by, present_of, rank_of, double_of, doubles_of, marks_of, outcome_by, outcome, answer_of}
use Rattle.std.specs.Prelude.{Result, Ok, Err}
use Rattle.refusals.specs.declared.Refusal.{Refusal}

module _ (file : List ℕ) (d : Description) (known : Known file d) where
  abbrev run : List ℕ
  run = octets_in file d.starts.seven.0

  abbrev points : ℕ
  points = points_of d.grid

  -- The bitmap that tells which points are present lies in the file, where one does.
  abbrev marking : List ℕ
  marking = bitmap file d known

  lies : BitmapLies file d.presence points
  lies = bitmap_lies file d known

  -- As many integers are packed as points are present.
  pub packed_marked : d.representation.n ≡ (marks_in marking).rank points
  packed_marked = packed_present file d known ∙ field_ranks file d.presence points lies points (omega arith)

  -- The runs that are filled with the field's integers by its marks are the rows of the field.
  pub field_rows : {x : ℕ → ℕ} (before : Runs) {after : Runs} → ((m : ℕ) → x m ≡ nat_abs (integer_of file d m)) → length before.doubles ≡ points →
      Filled (marks_in marking) (packing_by d.representation) x before after → (after.doubles ≡ doubles_of file d) × (after.marks ≡ marks_of file d)
  field_rows {x} before same long filled =
      let marks = field_marks_lem file d.presence points lies in
      let ranks = field_ranks file d.presence points lies in
      let rows = rw long at filled in (
        rows.0 ∙ row_same (double_at (packing_by d.representation) x (marks_in marking).mark (marks_in marking).rank) (double_of file d) points
            (λ i l. ap₂ (point_value (packing_by d.representation)) (sym (marks i l)) (ap x (sym (ranks i (omega arith))) ∙ same (rank_of file d i))),
        rows.1 ∙ row_same (marks_in marking).mark (present_of file d) points (λ i l. sym (marks i l)),
      )

  pub simple_size : d.plan ≡ Data.Simple → (m : ℕ) → simple_integer run d.representation.bits m ≡ nat_abs (integer_of file d m)
  simple_size e m = by (simple_template file d known e)
    where
      by : d.representation.template ≡ Template.Simple → simple_integer run d.representation.bits m ≡ nat_abs (integer_of file d m)
      by is = rw is

  pub groups_size : {groups : Groups} → d.plan ≡ Data.Complex groups → (m : ℕ) → size_in run groups m ≡ nat_abs (integer_of file d m)
  groups_size e m = ap nat_abs (groups_integers file d known e m)

-- A point is present or missing, each that is present counts in the rank of those behind it, and none is present before the first.
pub one_or_zero : (file : List ℕ) (p : declared.Presence) (points i : ℕ) → present_at file p points i < 2
one_or_zero file Presence.All points i = omega arith
one_or_zero file (Presence.Own s) points i = bit_lt _ i
one_or_zero file (Presence.Earlier s) points i = bit_lt _ i

abbrev pub field_marks : List ℕ → Description → Marks
field_marks file d = record { mark = present_of file d; rank = rank_of file d }

pub field_ranked : (file : List ℕ) (d : Description) → Ranked (field_marks file d)
unfolding present_before
field_ranked file d = record { none = refl; more = λ i. ap (rank_of file d) (add-one i); few = one_or_zero file d.presence (points_of d.grid) }

-- The integer of a point that is present is one of those that are packed.
pub rank_among : (file : List ℕ) (d : Description) → Known file d → (i : ℕ) → i < points_of d.grid → present_of file d i ≡ 1 → rank_of file d i < d.representation.n
rank_among file d known i h mark =
    let ranked = field_ranked file d in
    omega (arith, packed_present file d known, ranked.more i, rank_mono (field_marks file d) ranked.more {i = i + 1} (points_of d.grid) (omega arith))

-- An answer of decode: its point count is that of a grid that is taken, and a refusal is placed within the largest file that is taken.
abbrev pub Small : Result ℕ Refusal → Type 0
Small (Ok points) = points ≤ 16777216
Small (Err r) = r.place.0 ≤ largest

pub decode_small : (file : List ℕ) (k start values presence : ℕ) → Small (answer_of (outcome file k start values presence))
decode_small file k start values presence = by (judge file k (Asks.Values start values presence)) refl
  where
    by : (a : Result Description Refusal) → judge file k (Asks.Values start values presence) ≡ a → Small (answer_of (outcome_by file a))
    by (Ok d) said = few_points file d (k, (judged_values file k start values presence said).0)
    by (Err r) said = judge_placed file k (Asks.Values start values presence) said
