-- `question_picture::paint` meets its contract: the integers of either template are the field's own, and its bitmap tells which point has which.
use mathlib.Core.Path.{◌≡◌, sym, ap, ◌∙◌}
use mathlib.Core.List.{List}
use Prim.Native.Nat.{ℕ}
use native.Mathlib.Omega.{arith}
use lib.ListN.{length}
use Rattle.section_3_geometry.specs.Geometry.{points_of}
use Rattle.greys.proofs.Laws.{scale_scaled}
use Rattle.values_points.specs.Written.{marks_in}
use Rattle.values_points.proofs.Marks.{field_covers}
use Rattle.values_picture.specs.Painted.{Canvas}
use Rattle.question.specs.declared.DescribedField.{DescribedField}
use Rattle.question.proofs.Known.{known_of, bitmap, bitmap_lies, few_points, groups_values, groups_decodable}
use Rattle.question_decode.proofs.Laws.{packed_marked, simple_size, groups_size}
use Rattle.question_picture.proofs.Laws.{largest_told, largest_ranges, sizes_below, field_greys}
use Rattle.question_picture.proofs.paint.Goals as goal

-- The room that the field's bitmap and the run are.
canvas : (f : DescribedField) (stretch : List ℕ) → length stretch ≡ points_of f.description.grid →
    Canvas (bitmap f.file.now f.description (known_of f)) (length stretch) f.description.representation.n
canvas f stretch long =
    let file = f.file.now in
    let d = f.description in
    let known = known_of f in (
      omega (arith, long, few_points file d known),
      λ some. omega (arith, long, field_covers file d.presence (points_of d.grid) (bitmap_lies file d known) some),
      packed_marked file d known ∙ ap (marks_in (bitmap file d known)).rank (sym long),
    )

pub paint_simple-requires : goal.paint_simple-requires
paint_simple-requires c =
    let file = c.args.field.file.now in
    let d = c.args.field.description in
    let known = known_of c.args.field in
    rw (c.numbered.ensures.0, c.numbered.ensures.1, c.scale_of-scale.ensures, c.bitmap-bitmap.ensures)
    (record {
      canvas = canvas c.args.field c.args.stretch.now c.requires.1;
      scaled_to = (scale_scaled c.args.largest (largest_ranges file d known c.requires.0), sizes_below file d known c.requires.0 _ (simple_size file d known c.in-Simple.is));
    })

pub paint_complex-requires : goal.paint_complex-requires
paint_complex-requires c =
    let file = c.args.field.file.now in
    let d = c.args.field.description in
    let known = known_of c.args.field in
    let e = c.in-Complex.is in
    rw (c.grouped.ensures.0, c.grouped.ensures.1, c.scale_of-scale.ensures, c.bitmap-bitmap.ensures)
    (record {
      all_in_range = groups_decodable file d known e ∙ (largest_told file d known c.requires.0).0;
      n_value = sym (groups_values file d known e);
      canvas = canvas c.args.field c.args.stretch.now c.requires.1;
      scaled_to = (scale_scaled c.args.largest (largest_ranges file d known c.requires.0), sizes_below file d known c.requires.0 _ (groups_size file d known e));
    })

pub returns-in-Simple : goal.returns-in-Simple
returns-in-Simple c =
    let file = c.args.field.file.now in
    let d = c.args.field.description in
    let known = known_of c.args.field in
    rw (c.numbered.ensures.0, c.numbered.ensures.1, c.scale_of-scale.ensures, c.bitmap-bitmap.ensures) at c.paint_simple.ensures
    ∙ field_greys file d known c.requires.0 (simple_size file d known c.in-Simple.is) c.requires.1

pub returns-in-Complex : goal.returns-in-Complex
returns-in-Complex c =
    let file = c.args.field.file.now in
    let d = c.args.field.description in
    let known = known_of c.args.field in
    rw (c.grouped.ensures.0, c.grouped.ensures.1, c.scale_of-scale.ensures, c.bitmap-bitmap.ensures) at c.paint_complex.ensures
    ∙ field_greys file d known c.requires.0 (groups_size file d known c.in-Complex.is) c.requires.1
