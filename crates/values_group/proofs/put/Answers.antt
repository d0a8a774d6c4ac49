-- `values_group::put` meets its contract: behind the integers that are put four at a time the others are put one by one, and the run has them all.
use Rattle.std.proofs.Common.{◌≡◌, ℕ, ◌+◌, ◌-◌, ◌*◌, ◌++◌, length, ap, ap₂, sym, ◌∙◌, subst, arith}
use Rattle.std.specs.Prelude.{Some, is_some}
use Rattle.bits.proofs.Fours.{fours_foured}
use Rattle.laws_rows.specs.Rows.{row}
use Rattle.laws_rows.proofs.Laws.{row_same, row_then}
use Rattle.values_group.specs.Group.{integers_of}
use Rattle.values_group.proofs.Steps.{kept_earlier}
use Rattle.values_group.proofs.Left.{behind_limits, behind_all, behind_integer, limits_on}
use Rattle.values_group.proofs.put.Goals as goal

pub overflow_mul-fours : goal.overflow_mul-fours
overflow_mul-fours g c =
    let foured = fours_foured _ _ _ _ c.fours_in-fours.ensures in omega (arith, foured.few, c.requires.limits.1, c.requires.limits.0.of_count)

pub split_at_mut-front-requires : goal.split_at_mut-front-requires
split_at_mut-front-requires g c = let foured = fours_foured _ _ _ _ c.fours_in-fours.ensures in foured.few

pub put_fours-reached-requires-clause-foured : goal.put_fours-reached-requires-clause-foured
put_fours-reached-requires-clause-foured g c =
    let foured = fours_foured _ _ _ _ c.fours_in-fours.ensures in
    record { few = omega (arith, foured.few, c.requires.limits.1); narrow = foured.narrow; inside = foured.inside }

pub put_fours-reached-requires-clause-group_kept : goal.put_fours-reached-requires-clause-group_kept
put_fours-reached-requires-clause-group_kept g c =
    let a = c.args in
    let foured = fours_foured _ _ _ _ c.fours_in-fours.ensures in
    kept_earlier a.section.now a.group (Some a.latest) (length a.run.now) (4 * c.fours_in-fours.result) foured.few c.requires.group_kept

pub put_each-requires : goal.put_each-requires
put_each-requires g c =
    let a = c.args in
    let foured = fours_foured _ _ _ _ c.fours_in-fours.ensures in
    let done = 4 * c.fours_in-fours.result in
    let goes = c.put_fours-reached.ensures.group_goes in
    let left : length c.split_at_mut-front.result.1.now ≡ length a.run.now - done = omega (arith, c.split_at_mut-front.ensures.back_len) in
    rw (c.behind-rest.ensures, left) (record {
      limits = (behind_limits a.section.now a.group done (limits_on a.section.now a.group a.latest done goes c.requires.limits.0) (omega (arith, foured.few, c.requires.limits.1)), omega (arith, c.requires.limits.1));
      group_kept = ap is_some (behind_all a.section.now a.group a.latest done goes foured.few) ∙ c.requires.group_kept;
      taken = λ k h. subst (g.B.Becomes.takes a.sink) (sym (behind_integer a.section.now a.group a.latest done goes k)) (c.requires.taken (done + k) (omega (arith, h)));
    })

pub returns : goal.returns
returns g c =
    let a = c.args in
    let foured = fours_foured _ _ _ _ c.fours_in-fours.ensures in
    let done = 4 * c.fours_in-fours.result in
    let goes = c.put_fours-reached.ensures.group_goes in
    let left : length c.split_at_mut-front.result.1.now ≡ length a.run.now - done = omega (arith, c.split_at_mut-front.ensures.back_len) in
    let told = rw (c.behind-rest.ensures, left) at c.put_each.ensures in
    let f = λ (k : ℕ). g.B.Becomes.becomes a.sink (integers_of a.section.now a.group a.latest k) in
    let all : done + (length a.run.now - done) ≡ length a.run.now = omega (arith, foured.few) in
    record {
      group_goes = sym (behind_all a.section.now a.group a.latest done goes foured.few) ∙ told.group_goes;
      run_after = ap₂ (λ front back. front ++ back) c.put_fours-reached.ensures.run_after
          (told.run_after ∙ row_same _ (λ k. f (done + k)) _ (λ k _. ap (g.B.Becomes.becomes a.sink) (behind_integer a.section.now a.group a.latest done goes k)))
          ∙ row_then f done (length a.run.now - done)
          ∙ ap (row f) all;
    }
