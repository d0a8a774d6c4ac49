-- The contracts about the values of a field leave nothing open: neither where writing ends, nor what the lent runs hold afterwards.
use Prim.Native.Nat.{◌^◌, ◌<◌, ℕ}
use mathlib.Core.Path.{◌≡◌, refl, ap, ◌∙◌}
use native.Mathlib.Omega.{arith}
use denote.RattleType.{RattleType}
use mir.Syntax.{Dict}
use Rattle.std.specs.declared.clone.Clone as Clone
use Rattle.std.specs.Prelude.{Option, Some}
use Rattle.theorems_outcomes.specs.Determined.{Determined}
use Rattle.theorems_outcomes.proofs.Facts.{alike, one, two}
use Rattle.values_points.specs.contracts as values_points
use Rattle.values_group.specs.contracts as values_group
use Rattle.values_simple.specs.contracts as values_simple
use Rattle.values_complex.specs.contracts as values_complex
use Rattle.values_largest.specs.contracts as values_largest
use Rattle.values_greys.specs.contracts as values_greys
use Rattle.values_picture.specs.contracts as values_picture
use Rattle.values_points.proofs.Laws.{written_determined}
use Rattle.values_points.proofs.Missing.{cleared_determined}
use Rattle.values_group.specs.Group.{Gains, followed_by}
use Rattle.values_group.specs.declared.Latest.{Latest}
use Rattle.values_group.specs.declared.Becomes as Becomes

-- The relations between a point, the next one and both runs leave nothing open.
pub values_points_clear_missing : Determined values_points.clear_missing.ended (λ _ _. values_points.clear_missing.clauses)
values_points_clear_missing _ 𝓤 𝓛 _ _ _ _ _ _ _ _ _ _ =
    one 𝓤 (λ p q. let same = cleared_determined p q in (same.0, λ i. (tt, ((same.1 i).doubles, ((same.1 i).marks, (tt, tt))))))

pub values_points_write : Determined values_points.write.ended (λ _ _. values_points.write.clauses)
values_points_write _ 𝓤 𝓛 _ _ _ _ _ _ _ _ _ _ =
    one 𝓤 (λ p q. let same = written_determined p q in (same.0, λ i. (tt, (tt, (tt, ((same.1 i).doubles, ((same.1 i).marks, (tt, tt))))))))

-- Neither does the length of a block.
pub values_points_block_length : Determined values_points.block_length.ended (λ _ _. values_points.block_length.clauses)
values_points_block_length _ 𝓤 𝓛 _ _ _ _ _ _ _ _ _ _ = one 𝓤 (λ p q. (alike p q, refl))

-- Neither do whether a point is present, and how many before it are.
pub values_points_is_present : Determined values_points.is_present.ended (λ _ _. values_points.is_present.clauses)
values_points_is_present _ 𝓤 𝓛 _ _ _ _ _ _ _ _ _ _ = one 𝓤 (λ p q. (alike p q, refl))

pub values_points_rank_of : Determined values_points.rank_of.ended (λ _ _. values_points.rank_of.clauses)
values_points_rank_of _ 𝓤 𝓛 _ _ _ _ _ _ _ _ _ _ = one 𝓤 (λ p q. (alike p q, refl))

-- Where integers are kept, the last two of them are told.
kept_determined : {worked : Option Latest} {x y : Latest} → worked ≡ Some x → worked ≡ Some y → x ≡ y
kept_determined p q = cc

-- What the integers of a group lead to leaves nothing open, and neither does what a block of them holds.
pub values_group_judge : Determined values_group.judge.ended (λ _ _. values_group.judge.clauses)
values_group_judge _ 𝓤 𝓛 _ _ _ _ _ _ _ _ _ _ = one 𝓤 (λ p q. (alike p q, refl))

pub values_group_unpack : Determined values_group.unpack.ended (λ _ _. values_group.unpack.clauses)
values_group_unpack _ 𝓤 𝓛 _ _ _ _ _ _ _ _ _ _ =
    two 𝓤 (λ p q. (kept_determined p.0 q.0, λ i. (tt, (tt, (tt, (alike p.1 q.1 i, (tt, tt)))))))

-- What is put of them leaves nothing open, whatever an integer becomes.
pub values_group_put : (B : RattleType) (E : RattleType) (becomes : Becomes.Ghosts B.Denot E.Denot) (d : Dict) (copies : Clone.Ghosts B.Denot) (c : Dict) (elements : Clone.Ghosts E.Denot) (e : Dict) → Determined (values_group.put.ended B E becomes d copies c elements e) (λ _ _. values_group.put.clauses B E becomes d copies c elements e)
values_group_put B E becomes d copies c elements e _ 𝓤 𝓛 _ _ _ _ _ _ _ _ _ _ =
    two 𝓤 (λ p q. (kept_determined p.0 q.0, λ i. (tt, (tt, (tt, (tt, (alike p.1 q.1 i, tt)))))))

pub values_group_ItselfBecomes_of : Determined values_group.ItselfBecomes.of.ended (λ _ _. values_group.ItselfBecomes.of.clauses)
values_group_ItselfBecomes_of _ 𝓤 𝓛 _ _ _ _ _ _ _ _ _ _ = one 𝓤 (λ p q. (alike p q, refl))

pub values_group_behind : Determined values_group.behind.ended (λ _ _. values_group.behind.clauses)
values_group_behind _ 𝓤 𝓛 _ _ _ _ _ _ _ _ _ _ = one 𝓤 (λ p q. (alike p q, refl))

-- What the recurrence adds and gives, each in one number of the machine.
gain_determined : {gain other base lowered : ℕ} → Gains gain base lowered × (gain < 2 ^ 64) → Gains other base lowered × (other < 2 ^ 64) → gain ≡ other
gain_determined p q = omega (arith, p.0.2, p.1, q.0.2, q.1)

pub values_group_gain_of : Determined values_group.gain_of.ended (λ _ _. values_group.gain_of.clauses)
values_group_gain_of _ 𝓤 𝓛 _ _ _ _ _ _ _ _ _ _ = two 𝓤 (λ p q. (gain_determined p q, refl))

pub values_group_Latest_next : Determined values_group.Latest.next.ended (λ _ _. values_group.Latest.next.clauses)
values_group_Latest_next _ 𝓤 𝓛 _ _ _ a _ _ _ _ _ _ = one 𝓤 (λ p q. (alike p.value q.value, λ i. (alike p.last (q.last ∙ ap (λ (x : ℕ). followed_by x a.0.now) (alike q.value p.value)) i, (tt, (tt, tt)))))

pub values_group_element : Determined values_group.element.ended (λ _ _. values_group.element.clauses)
values_group_element _ 𝓤 𝓛 _ _ _ _ _ _ _ _ _ _ = one 𝓤 (λ p q. (alike p q, refl))

-- What a block holds of simple packing, one integer of it, and both runs of a field in it.
pub values_simple_unpack : Determined values_simple.unpack.ended (λ _ _. values_simple.unpack.clauses)
values_simple_unpack _ 𝓤 𝓛 _ _ _ _ _ _ _ _ _ _ = one 𝓤 (λ p q. (refl, λ i. (tt, (tt, (alike p q i, tt)))))

pub values_simple_put : (B : RattleType) (E : RattleType) (becomes : Becomes.Ghosts B.Denot E.Denot) (d : Dict) (copies : Clone.Ghosts B.Denot) (c : Dict) (elements : Clone.Ghosts E.Denot) (e : Dict) → Determined (values_simple.put.ended B E becomes d copies c elements e) (λ _ _. values_simple.put.clauses B E becomes d copies c elements e)
values_simple_put B E becomes d copies c elements e _ 𝓤 𝓛 _ _ _ _ _ _ _ _ _ _ = one 𝓤 (λ p q. (refl, λ i. (tt, (tt, (tt, (alike p q i, tt))))))

pub values_simple_integer_at : Determined values_simple.integer_at.ended (λ _ _. values_simple.integer_at.clauses)
values_simple_integer_at _ 𝓤 𝓛 _ _ _ _ _ _ _ _ _ _ = one 𝓤 (λ p q. (alike p q, refl))

pub values_simple_fill : Determined values_simple.fill.ended (λ _ _. values_simple.fill.clauses)
values_simple_fill _ 𝓤 𝓛 _ _ _ _ _ _ _ _ _ _ = one 𝓤 (λ p q. (refl, λ i. (tt, (tt, (tt, (tt, (alike p.0 q.0 i, (alike p.1 q.1 i, tt))))))))

pub values_simple_window_fours : Determined values_simple.window_fours.ended (λ _ _. values_simple.window_fours.clauses)
values_simple_window_fours _ 𝓤 𝓛 _ _ _ _ _ _ _ _ _ _ = one 𝓤 (λ p q. (alike p q, refl))

-- A group, and where the next one starts.
pub values_complex_group_at : Determined values_complex.group_at.ended (λ _ _. values_complex.group_at.clauses)
values_complex_group_at _ 𝓤 𝓛 _ _ _ _ _ _ _ _ _ _ = one 𝓤 (λ p q. (λ i. record { group = alike p.0 q.0 i; next = alike p.1 q.1 i }, refl))

-- Whether the integers of a field in complex packing are in their range, one of them, and both runs.
pub values_complex_is_in_range : Determined values_complex.is_in_range.ended (λ _ _. values_complex.is_in_range.clauses)
values_complex_is_in_range _ 𝓤 𝓛 _ _ _ _ _ _ _ _ _ _ = one 𝓤 (λ p q. (alike p q, refl))

pub values_complex_integer_at : Determined values_complex.integer_at.ended (λ _ _. values_complex.integer_at.clauses)
values_complex_integer_at _ 𝓤 𝓛 _ _ _ _ _ _ _ _ _ _ = one 𝓤 (λ p q. (alike p q, refl))

pub values_complex_fill : Determined values_complex.fill.ended (λ _ _. values_complex.fill.clauses)
values_complex_fill _ 𝓤 𝓛 _ _ _ _ _ _ _ _ _ _ = one 𝓤 (λ p q. (refl, λ i. (tt, (tt, (tt, (alike p.0 q.0 i, (alike p.1 q.1 i, tt)))))))

-- The largest integer of a field, in either packing.
pub values_largest_of_simple : Determined values_largest.of_simple.ended (λ _ _. values_largest.of_simple.clauses)
values_largest_of_simple _ 𝓤 𝓛 _ _ _ _ _ _ _ _ _ _ = one 𝓤 (λ p q. (alike p q, refl))

pub values_largest_of_complex : Determined values_largest.of_complex.ended (λ _ _. values_largest.of_complex.clauses)
values_largest_of_complex _ 𝓤 𝓛 _ _ _ _ _ _ _ _ _ _ = one 𝓤 (λ p q. (alike p q, refl))

-- The greys of its integers, and of its points.
pub values_greys_put_simple : Determined values_greys.put_simple.ended (λ _ _. values_greys.put_simple.clauses)
values_greys_put_simple _ 𝓤 𝓛 _ _ _ _ _ _ _ _ _ _ = one 𝓤 (λ p q. (refl, λ i. (tt, (tt, (alike p q i, tt)))))

pub values_greys_put_complex : Determined values_greys.put_complex.ended (λ _ _. values_greys.put_complex.clauses)
values_greys_put_complex _ 𝓤 𝓛 _ _ _ _ _ _ _ _ _ _ = one 𝓤 (λ p q. (refl, λ i. (tt, (tt, (alike p q i, tt)))))

pub values_picture_paint_simple : Determined values_picture.paint_simple.ended (λ _ _. values_picture.paint_simple.clauses)
values_picture_paint_simple _ 𝓤 𝓛 _ _ _ _ _ _ _ _ _ _ = one 𝓤 (λ p q. (refl, λ i. (tt, (tt, (tt, (tt, (alike p q i, tt)))))))

pub values_picture_paint_complex : Determined values_picture.paint_complex.ended (λ _ _. values_picture.paint_complex.clauses)
values_picture_paint_complex _ 𝓤 𝓛 _ _ _ _ _ _ _ _ _ _ = one 𝓤 (λ p q. (refl, λ i. (tt, (tt, (tt, (tt, (alike p q i, tt)))))))
