-- `values_simple::fill` meets its contract. The invariant: the first `done` integers are written to the points that are present, and the block has its length,
-- and still its zeros where integers have no bits.
use mathlib.Core.Path.{◌≡◌, refl, sym, ap, ◌∙◌}
use Prim.Native.Nat.{ℕ, ◌-◌, ◌≤◌}
use mathlib.Core.List.{List}
use native.Mathlib.Omega.{arith}
use borrow.Rule.Slice.PartMut.{put_mid, put_same, same_len_mid}
use lib.ListN.{length, take}
use Rattle.laws_rows.specs.Rows.{row}
use Rattle.laws_rows.proofs.Laws.{row_length, row_part}
use Rattle.values_points.specs.Written.{marks_in, runs, integers_in}
use Rattle.values_points.proofs.Blocks.{block_within, part_length, part_back}
use Rattle.values_points.proofs.Marks.{ranked, rank_most}
use Rattle.values_points.proofs.Laws.{written_none, written_then}
use Rattle.values_points.proofs.Missing.{cleared_filled}
use Rattle.values_integers.specs.Integers.{simple_integer}
use Rattle.values_simple.specs.Simple.{integers_behind, ZerosWithoutBits}
use Rattle.values_simple.proofs.Laws.{zeros_stay, block_integers}
use Rattle.values_simple.proofs.fill.Goals.{After-block_length-count, After-unpack}
use Rattle.values_simple.proofs.fill.Goals as goal

pub loop-done-init : goal.loop-done-init
unfolding row
loop-done-init c =
    let a = c.args in (
      omega arith,
      refl,
      λ _. refl,
      refl,
      refl,
      written_none (marks_in a.bitmap.now) (ranked a.bitmap.now).more a.packing (simple_integer a.numbered.section.now a.numbered.bits) 0 (runs a.values.now a.presence.now) (omega arith),
    )

-- The integers of the next block: at least one, at most 56, and among those that are left, which are few. The part of the block that is lent for them has as many
-- elements.
few : (c : After-block_length-count) →
    let l = c.loop-done in
    let n = c.block_length-count.result in
    (n ≤ c.args.n - l.done) × (n ≤ 56) × (1 ≤ n) × (c.args.n ≤ 16777216) × (length (take (n - 0) l.block) ≡ n)
few c =
    let l = c.loop-done in
    let within = block_within (c.args.n - l.done) c.block_length-count.ensures (omega (arith, c.loop-done-test.true)) in
    (within.0, within.1, within.2, omega (arith, c.requires, rank_most (ranked c.args.bitmap.now) (length c.args.values.now)), part_length l.block (omega (arith, within.1, l.invariant.1)))

-- That part has zeros where integers have no bits.
zeros : {bits n : ℕ} {block : List ℕ} → (bits ≡ 0 → block ≡ row (λ _. 0) 56) → n ≤ 56 → length (take (n - 0) block) ≡ n → ZerosWithoutBits bits (take (n - 0) block)
zeros {n = n} before most long none =
    let all : n - 0 ≡ n = omega arith in
    ap (take (n - 0)) (before none) ∙ row_part (λ _. 0) (n - 0) 56 (omega arith) ∙ ap (row (λ _. 0)) (all ∙ sym long)

pub unpack-requires : goal.unpack-requires
unpack-requires c =
    let l = c.loop-done in
    let next = few (goal.at.unpack-requires c).After-block_length-count in
    (omega (arith, next.3, l.invariant.0), omega (arith, next), zeros l.invariant.2 next.1 next.4)

-- The part comes back with the next integers, as long as it was, and is what is written next. The block keeps its length, and its zeros where integers have no bits.
returned : (c : After-unpack) →
    let a = c.args in
    let n = c.block_length-count.result in
    let block = put_mid 0 (n - 0) c.loop-done.block c.unpack.new.block in
    (c.unpack.new.block ≡ row (integers_behind a.numbered.section.now a.numbered.bits c.loop-done.done) n)
    × (length c.unpack.new.block ≡ n) × (length block ≡ 56) × (a.numbered.bits ≡ 0 → block ≡ row (λ _. 0) 56) × (take (n - 0) block ≡ c.unpack.new.block)
returned c =
    let l = c.loop-done in
    let a = c.args in
    let n = c.block_length-count.result in
    let within = block_within (a.n - l.done) c.block_length-count.ensures (omega (arith, c.loop-done-test.true)) in
    let lent = part_length {n = n} l.block (omega (arith, within.1, l.invariant.1)) in
    let part = rw lent at c.unpack.ensures in
    let long = ap length part ∙ row_length (integers_behind a.numbered.section.now a.numbered.bits l.done) n in
    let same = λ (none : a.numbered.bits ≡ 0). zeros_stay a.numbered.section.now a.numbered.bits l.done (take (n - 0) l.block) none (zeros l.invariant.2 within.1 lent) c.unpack.ensures in (
      part,
      long,
      same_len_mid 0 (n - 0) l.block c.unpack.new.block (long ∙ sym lent) ∙ l.invariant.1,
      λ none. ap (put_mid 0 (n - 0) l.block) (same none) ∙ put_same 0 (n - 0) l.block ∙ l.invariant.2 none,
      part_back l.block c.unpack.new.block long,
    )

pub write-point-requires-clause-points_left : goal.write-point-requires-clause-points_left
write-point-requires-clause-points_left c =
    let l = c.loop-done in
    let bitmap = c.args.bitmap.now in
    let at = goal.at.write-point-requires-clause-points_left c in
    let back = returned at.After-unpack in
    let part = ap length back.4 ∙ back.1 in
    let next = few at.After-block_length-count in
    let all = ap (marks_in bitmap).rank l.invariant.3 in (
      (omega (arith, l.invariant.5.past.within, l.invariant.3), omega (arith, part, next.0, l.invariant.0, l.invariant.5.past.used, (ranked bitmap).none, all, c.requires.1)),
      omega (arith, part, next.1),
    )

pub loop-done-preserved : goal.loop-done-preserved
loop-done-preserved c =
    let l = c.loop-done in
    let a = c.args in
    let bitmap = a.bitmap.now in
    let at = goal.at.loop-done-preserved c in
    let next = few at.After-block_length-count in
    let back = returned at.After-unpack in
    let part = c.unpack.new.block in
    let written = rw (back.4, back.1) at c.write-point.ensures in
    let same = block_integers a.numbered.section.now l.done c.block_length-count.result part c.args.numbered.fits back.0 in (
      omega (arith, next.0, l.invariant.0),
      back.2,
      back.3,
      omega (arith, c.write-point.auto, l.invariant.3),
      omega (arith, c.write-point.auto, l.invariant.4),
      written_then (marks_in bitmap) (ranked bitmap).more a.packing (simple_integer a.numbered.section.now a.numbered.bits) (integers_in part) l.invariant.5 written same,
    )

pub returns : goal.returns
returns c =
    let bitmap = c.args.bitmap.now in
    let all : c.loop-done.done ≡ c.args.n = omega (arith, c.loop-done.invariant.0, c.loop-done-test.false) in
    cleared_filled (marks_in bitmap) (ranked bitmap) c.args.packing (simple_integer c.args.numbered.section.now c.args.numbered.bits) c.loop-done.invariant.5.past c.clear_missing.ensures
    (sym (all ∙ c.requires.1)) c.requires.0.0
