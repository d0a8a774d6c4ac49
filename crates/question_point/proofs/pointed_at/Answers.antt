-- `question_point::pointed_at` meets its contract: the bitmap in force tells whether the point is present, and how many before it are.
use mathlib.Core.Path.{◌≡◌, sym, ap, ◌∙◌}
use mathlib.Core.Bool.{Bool}
use Prim.Native.Nat.{ℕ, ◌+◌, ◌<◌}
use native.Mathlib.Omega.{arith}
use borrow.Author.Tests.{eqb-true}
use lib.Dec.{eqb}
use Rattle.values_points.specs.Written.{marks_in}
use Rattle.section_3_geometry.specs.Geometry.{points_of}
use Rattle.question.specs.declared.DescribedField.{DescribedField}
use Rattle.question.proofs.Known.{known_of, bitmap}
use Rattle.question_decode.specs.Decoding.{present_of}
use Rattle.question_point.specs.Point.{value_by}
use Rattle.question_point.proofs.Laws.{point_covered, point_marked, point_ranked, present_packed}
use Rattle.question_point.proofs.pointed_at.Goals as goal

-- What the bitmap in force answers is whether the field has the point.
present_so : (f : DescribedField) {n : ℕ} {answer : Bool} → n < points_of f.description.grid → answer ≡ eqb ((marks_in (bitmap f.file.now f.description (known_of f))).mark n) 1 → answer ≡ eqb (present_of f.file.now f.description n) 1
present_so f below answers = answers ∙ sym (ap (λ mark. eqb mark 1) (point_marked f.file.now f.description (known_of f) below))

pub is_present-requires : goal.is_present-requires
is_present-requires c =
    let f = c.args.field in
    rw c.bitmap-bitmap.ensures (point_covered f.file.now f.description (known_of f) c.requires (c.args.n + 1) (omega arith))

pub rank_of-requires : goal.rank_of-requires
rank_of-requires c =
    let f = c.args.field in
    rw c.bitmap-bitmap.ensures (point_covered f.file.now f.description (known_of f) c.requires c.args.n (omega arith))

pub value_by-requires : goal.value_by-requires
value_by-requires c =
    let f = c.args.field in
    let one = sym (rw c.bitmap-bitmap.ensures at c.is_present.ensures) ∙ c.if-not-is_present.false in
    rw (rw c.bitmap-bitmap.ensures at c.rank_of.ensures) (present_packed f.file.now f.description (known_of f) c.requires (eqb-true _ 1 one))

pub returns-then-not-is_present : goal.returns-then-not-is_present
returns-then-not-is_present c =
    let answers = present_so c.args.field c.requires (rw c.bitmap-bitmap.ensures at c.is_present.ensures) in
    rw (sym answers ∙ c.if-not-is_present.true)

pub returns : goal.returns
returns c =
    let f = c.args.field in
    let answers = present_so f c.requires (rw c.bitmap-bitmap.ensures at c.is_present.ensures) in
    let rank = (rw c.bitmap-bitmap.ensures at c.rank_of.ensures) ∙ sym (point_ranked f.file.now f.description (known_of f) c.requires) in
    rw (sym answers ∙ c.if-not-is_present.false) (c.value_by.ensures ∙ ap (value_by f.file.now f.description) rank)
