-- `question_decode::fill` meets its contract: the integers of either template are the field's own, and its bitmap tells which point has which.
use mathlib.Core.Path.{◌≡◌, sym, ap, ◌∙◌}
use native.Mathlib.Omega.{arith}
use Prim.Native.Nat.{ℕ}
use mathlib.Core.List.{List}
use lib.Ieee.{Float}
use lib.ListN.{length}
use Rattle.section_3_geometry.specs.Geometry.{points_of}
use Rattle.values_points.specs.Written.{marks_in, runs, Room}
use Rattle.values_points.proofs.Marks.{field_covers}
use Rattle.question.specs.declared.DescribedField.{DescribedField}
use Rattle.question.proofs.Known.{known_of, bitmap, bitmap_lies, few_points, scaled, groups_values, groups_decodable}
use Rattle.question_decode.specs.Decoding.{Stretch}
use Rattle.question_decode.proofs.Laws.{packed_marked, field_rows, simple_size, groups_size}
use Rattle.question_decode.proofs.fill.Goals as goal

-- The room that the field's bitmap and a stretch of both runs are.
room : (f : DescribedField) (values : List Float) (presence : List ℕ) → Stretch f.description values presence → Room (bitmap f.file.now f.description (known_of f)) values presence
room f values presence stretch =
    let few = few_points f.file.now f.description (known_of f) in (
      omega (arith, stretch),
      omega (arith, stretch, few),
      λ some. omega (arith, stretch, field_covers f.file.now f.description.presence (points_of f.description.grid) (bitmap_lies f.file.now f.description (known_of f)) some),
    )

-- As many points are present as there are integers.
ranks : (f : DescribedField) (values : List Float) (presence : List ℕ) → (stretch : Stretch f.description values presence) →
    f.description.representation.n ≡ (marks_in (bitmap f.file.now f.description (known_of f))).rank (length values)
ranks f values presence stretch =
    packed_marked f.file.now f.description (known_of f) ∙ ap (marks_in (bitmap f.file.now f.description (known_of f))).rank (sym stretch.0)

pub packing_of-packing-requires : goal.packing_of-packing-requires
packing_of-packing-requires c = let f = c.args.field in scaled f.file.now f.description (known_of f)

pub fill-requires : goal.fill-requires
fill-requires c =
    let f = c.args.field in
    let stretch = c.requires.stretch in
    rw c.bitmap-bitmap.ensures (room f _ _ stretch, ranks f _ _ stretch)

pub fill-requires-in-Complex : goal.fill-requires-in-Complex
fill-requires-in-Complex c =
    let f = c.args.field in
    let known = known_of f in
    let stretch = c.requires.stretch in
    let e = c.in-Complex.is in
    rw (c.grouped.ensures.0, c.grouped.ensures.1, c.bitmap-bitmap.ensures)
    (record {
      all_in_range = groups_decodable f.file.now f.description known e ∙ c.requires.decodable;
      room = room f _ _ stretch;
      groups_value = groups_values f.file.now f.description known e ∙ ranks f _ _ stretch;
    })

pub returns-in-Simple : goal.returns-in-Simple
returns-in-Simple c =
    let f = c.args.field in
    let rows = field_rows f.file.now f.description (known_of f) (runs c.args.values.now c.args.presence.now)
    (simple_size f.file.now f.description (known_of f) c.in-Simple.is) c.requires.stretch.0
    (rw (c.numbered.ensures.0, c.numbered.ensures.1, c.packing_of-packing.ensures, c.bitmap-bitmap.ensures) at c.fill.ensures) in
    record { values_after = rows.0; presence_after = rows.1 }

pub returns-in-Complex : goal.returns-in-Complex
returns-in-Complex c =
    let f = c.args.field in
    let rows = field_rows f.file.now f.description (known_of f) (runs c.args.values.now c.args.presence.now)
    (groups_size f.file.now f.description (known_of f) c.in-Complex.is) c.requires.stretch.0
    (rw (c.grouped.ensures.0, c.grouped.ensures.1, c.packing_of-packing.ensures, c.bitmap-bitmap.ensures) at c.fill-in-Complex.ensures) in
    record { values_after = rows.0; presence_after = rows.1 }
