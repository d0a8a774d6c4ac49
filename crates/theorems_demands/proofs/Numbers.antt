-- The proof that the number of each case of a description is what the octets of the field's sections hold.
use Prim.Native.Nat.{ℕ}
use mathlib.Core.Path.{◌≡◌, refl, sym, ap, subst, ◌∙◌}
use mathlib.Core.Bool.{Bool, true, false, ◌&&◌, ◌||◌}
use mathlib.Core.List.{List, ◌++◌}
use native.Mathlib.Nat.{add-zero}
use borrow.Author.Tests.{eqb-true, eqb-false}
use lib.Dec.{eqb, ltb}
use lib.IntN.{ℤ, pos}
use lib.ListN.{length, get_or}
use lib.Seq.{get_or-append-add}
use Rattle.std.specs.declared.cmp.Ordering.{Ordering}
use Rattle.octets.specs.Places.{at, place_of}
use Rattle.octets.proofs.Cases.{apart, split, both}
use Rattle.calendar.specs.declared.Time.{Time}
use Rattle.calendar.specs.Calendar.{time_at, ordered}
use Rattle.section.specs.Sections.{octet, held, length_at}
use Rattle.tiling_sections.specs.declared.Located.{Located}
use Rattle.section_3_geometry.specs.declared.LambertGrid.{LambertGrid}
use Rattle.section_3_geometry.specs.declared.Grid as declaredGrid
use Rattle.section_3_geometry.specs.declared.Grid.TheVariants as Grid
use Rattle.section_3_geometry.specs.Geometry.{template_of}
use Rattle.section_3.proofs.Laws.{grid_template}
use Rattle.section_4.specs.declared.Kind.{Kind}
use Rattle.section_4.specs.declared.Level as declaredLevel
use Rattle.section_4.specs.declared.Product as declaredProduct
use Rattle.section_4.specs.declared.Product.TheVariants as Product
use Rattle.section_4.specs.declared.ProductDefinition.{ProductDefinition}
use Rattle.section_4.specs.Product.{product_template_at, is_template, is_product, level_at, later, agreed, ending, interval_of, product_at, product_definition_at}
use Rattle.section_4.proofs.Laws.{defined_tells, level_read}
use Rattle.section_5.specs.declared.Template as declaredTemplate
use Rattle.section_5.specs.declared.Template.{Template}
use Rattle.section_5.specs.declared.Representation.{Representation}
use Rattle.section_5_groups.specs.Groups.{grouping_at, is_differenced, is_grouping}
use Rattle.section_5.specs.Representation.{is_scaled, data_template_at, representation_with, represented_by, representation_at, template_number}
use Rattle.section_6.specs.declared.Presence as declaredPresence
use Rattle.section_6.specs.declared.Presence.TheVariants as Presence
use Rattle.section_6.specs.Presence.{is_bitmap, own_at, earlier_at, all_of, presence_at, indicator_of}
use Rattle.question.specs.declared.Description.{Description}
use Rattle.question_numbers.specs.Numbers.{level_numbers, kind_number, product_numbers, lambert_numbers, shared_numbers, numbers_of}
use Rattle.question_numbers.proofs.Laws.{shared_length}
use Rattle.question.specs.Judged.{Judged}
use Rattle.theorems_demands.specs.Numbers.{level_held, InNumbers}
use Rattle.std.specs.Prelude.{Option, Some, None}
use Rattle.octets.specs.declared.FilePlace.{FilePlace}

-- What stands behind so many numbers of a row.
get_or_behind : (front rest : List ℤ) {n : ℕ} → length front ≡ n → get_or (front ++ rest) n (pos 0) ≡ get_or rest 0 (pos 0)
get_or_behind front rest e = ap (λ (m : ℕ). get_or (front ++ rest) m (pos 0)) (sym e ∙ sym (add-zero (length front))) ∙ get_or-append-add front rest 0 (pos 0)

-- Of two tests one of which holds, it is the first or the second.
either : {A : Type 0} (a b : Bool) → a || b ≡ true → (a ≡ true → A) → (b ≡ true → A) → A
either true b e left right = left refl
either false b e left right = right e

-- Section 5: the template is 0 or 3.
module _ (file : List ℕ) (s : ℕ) where
  template_is : (t : declaredTemplate.Template) → data_template_at file s ≡ Some t → template_number t ≡ held file s 10 11
  template_is t e =
      split (eqb (length_at file s) 21 && eqb (held file s 10 11) 0)
      (λ simple.
      let same : Template.Simple ≡ t = cc (rw simple at e) in
      subst (λ (x : declaredTemplate.Template). template_number x ≡ held file s 10 11) same (sym (eqb-true (held file s 10 11) 0 (both (eqb (length_at file s) 21) (eqb (held file s 10 11) 0) simple).1)))
      (λ other.
      split (eqb (length_at file s) 49 && eqb (held file s 10 11) 3)
      (λ complex.
      split (is_differenced file s && is_grouping (grouping_at file s) (held file s 6 9))
      (λ grouped.
      let same : Template.Complex (grouping_at file s) ≡ t = cc (rw (other, complex, grouped) at e) in
      subst (λ (x : declaredTemplate.Template). template_number x ≡ held file s 10 11) same (sym (eqb-true (held file s 10 11) 3 (both (eqb (length_at file s) 49) (eqb (held file s 10 11) 3) complex).1)))
      (λ loose. apart (cc (rw (other, complex, loose) at e))))
      (λ neither. apart (cc (rw (other, neither) at e))))

  template_number_lem : {r : Representation} → representation_at file s ≡ Some r → template_number r.template ≡ held file s 10 11
  unfolding representation_at
  template_number_lem {r} said = by (data_template_at file s) refl said
    where
      by : (reading : Option Template) → data_template_at file s ≡ reading → represented_by file s reading ≡ Some r → template_number r.template ≡ held file s 10 11
      by (Some t) read e =
          split (is_scaled file s)
          (λ scaled.
          let same : representation_with file s t ≡ r = cc (rw scaled at e) in
          subst (λ (x : Representation). template_number x.template ≡ held file s 10 11) same (template_is t read))
          (λ not. apart (cc (rw not at e)))
      by None read e = apart cc

  -- Section 6: the indicator is 0, 254 or 255.
  own_indicator : (points n : ℕ) {p : declaredPresence.Presence} → octet file s 6 ≡ 0 → own_at file s points n ≡ Some p → indicator_of p ≡ octet file s 6
  own_indicator points n {p} is e =
      split (is_bitmap file s points n)
      (λ fits. let same : Presence.Own (at s) ≡ p = cc (rw fits at e) in subst (λ (x : declaredPresence.Presence). indicator_of x ≡ octet file s 6) same (sym is))
      (λ not. apart (cc (rw not at e)))

  earlier_indicator : (bitmap : Option FilePlace) (points n : ℕ) {p : declaredPresence.Presence} → octet file s 6 ≡ 254 → earlier_at file bitmap points n ≡ Some p → indicator_of p ≡ octet file s 6
  earlier_indicator None points n is e = apart cc
  earlier_indicator (Some q) points n {p} is e =
      split (is_bitmap file q.0 points n)
      (λ fits. let same : Presence.Earlier q ≡ p = cc (rw fits at e) in subst (λ (x : declaredPresence.Presence). indicator_of x ≡ octet file s 6) same (sym is))
      (λ not. apart (cc (rw not at e)))

  all_indicator : (points n : ℕ) {p : declaredPresence.Presence} → octet file s 6 ≡ 255 → all_of points n ≡ Some p → indicator_of p ≡ octet file s 6
  all_indicator points n {p} is e =
      split (eqb points n)
      (λ fits. let same : Presence.All ≡ p = cc (rw fits at e) in subst (λ (x : declaredPresence.Presence). indicator_of x ≡ octet file s 6) same (sym is))
      (λ not. apart (cc (rw not at e)))

  indicator_number : (bitmap : Option FilePlace) (points n : ℕ) {p : declaredPresence.Presence} → presence_at file s bitmap points n ≡ Some p → indicator_of p ≡ octet file s 6
  unfolding presence_at
  indicator_number bitmap points n {p} e =
      split (ltb (length_at file s) 6) (λ i. apart (cc (rw i at e)))
      (λ i.
      split (eqb (octet file s 6) 0) (λ j. own_indicator points n (eqb-true _ _ j) (rw (i, j) at e))
      (λ j.
      split (eqb (length_at file s) 6)
      (λ six.
      split (eqb (octet file s 6) 254) (λ k. earlier_indicator bitmap points n (eqb-true _ _ k) (rw (i, j, six, k) at e))
      (λ k.
      split (eqb (octet file s 6) 255) (λ m. all_indicator points n (eqb-true _ _ m) (rw (i, j, six, k, m) at e))
      (λ m. apart (cc (rw (i, j, six, k, m) at e)))))
      (λ six. apart (cc (rw (i, j, six) at e)))))

  -- Section 4: the level, the template and the kind.
  level_number : (level : Option declaredLevel.Level) → level_at file s ≡ Some level → level_numbers level ≡ level_held file s
  level_number level e = level_read file s (λ (l : Option declaredLevel.Level). level_numbers l ≡ level_held file s) level e (λ all. rw all) (λ some. rw some)

  -- An interval is of the kind that it was read for.
  same_kind : (k : Kind) (read : Option Time) (moved : Option Time) {p : declaredProduct.Product} → ending k read moved ≡ Some p → (end : Time) × (p ≡ Product.Interval end k)
  same_kind k (Some t) (Some r) {p} e = by (ordered t r) e
    where
      by : (o : Ordering) → agreed t k o ≡ Some p → (end : Time) × (p ≡ Product.Interval end k)
      by Ordering.Equal is = (t, cc)
      by Ordering.Less is = apart cc
      by Ordering.Greater is = apart cc
  same_kind k (Some t) None e = apart cc
  same_kind k None moved e = apart cc

  -- The kind, or that there is none, and the template that goes with it.
  pub record ByOctets (p : declaredProduct.Product) : Type 0 where
    pub template : is_template file s ≡ true → get_or (product_numbers p) 0 (pos 0) ≡ pos (product_template_at file s)
    pub kind : (end : Time) (kind : Kind) → p ≡ Product.Interval end kind → kind_number kind ≡ octet file s 47

  interval_by : (valid : Time) (k : Kind) {p : declaredProduct.Product} →
      (product_template_at file s ≡ 0 → ⊥) → kind_number k ≡ octet file s 47 → interval_of file s valid k ≡ Some p → ByOctets p
  interval_by valid k {p} other is e =
      let read = same_kind k (time_at file (place_of s 35)) (later valid (held file s 50 53) (octet file s 49)) e in
      subst ByOctets (sym read.1)
      (record {
        template =
            λ test.
            either (eqb (length_at file s) 34 && eqb (product_template_at file s) 0) (eqb (length_at file s) 58 && eqb (product_template_at file s) 8) test
            (λ simple. absurd (other (eqb-true (product_template_at file s) 0 (both (eqb (length_at file s) 34) (eqb (product_template_at file s) 0) simple).1)))
            (λ eight. ap pos (sym (eqb-true (product_template_at file s) 8 (both (eqb (length_at file s) 58) (eqb (product_template_at file s) 8) eight).1)));
        kind = λ end kind same. let alike : k ≡ kind = cc in subst (λ (x : Kind). kind_number x ≡ octet file s 47) alike is;
      })

  product_by : (valid : Time) (p : declaredProduct.Product) → product_at file s valid ≡ Some p → ByOctets p
  product_by valid p e =
      split (eqb (product_template_at file s) 0)
      (λ zero.
      let same : Product.Instant ≡ p = cc (rw zero at e) in
      subst ByOctets same (record { template = λ _. ap pos (sym (eqb-true _ _ zero)); kind = λ end kind same. apart cc }))
      (λ other.
      split (eqb (octet file s 42) 1)
      (λ one.
      split (eqb (octet file s 47) 0) (λ mean. interval_by valid Kind.Mean (eqb-false _ _ other) (sym (eqb-true _ _ mean)) (rw (other, one, mean) at e))
      (λ mean.
      split (eqb (octet file s 47) 1) (λ sum. interval_by valid Kind.Sum (eqb-false _ _ other) (sym (eqb-true _ _ sum)) (rw (other, one, mean, sum) at e))
      (λ sum. apart (cc (rw (other, one, mean, sum) at e)))))
      (λ one. apart (cc (rw (other, one) at e))))

  taken_is_template : (reference : Time) {d : ProductDefinition} → product_definition_at file s reference ≡ Some d → is_template file s ≡ true
  unfolding product_definition_at
  taken_is_template reference e = split (is_product file s) (λ test. (both _ _ (both _ _ (both _ _ (both _ _ test).0).0).0).0) (λ not. apart (cc (rw not at e)))

-- Of a Lambert grid, the template is the first of the numbers behind those that every description has.
behind_shared : (d : Description) (g : LambertGrid) → d.grid ≡ Grid.Lambert g → get_or (numbers_of d) 53 (pos 0) ≡ pos 30
behind_shared d g kind =
    get_or_behind (shared_numbers d) (lambert_numbers d.grid) (shared_length d)
    ∙ ap (λ (h : declaredGrid.Grid). get_or (lambert_numbers h) 0 (pos 0)) kind

pub in_numbers : (file : List ℕ) (l : Located) (d : Description) → Judged file l d → InNumbers file l d
in_numbers file l d judged =
    let s : ℕ = l.starts.four.0 in
    let told = defined_tells file s d.identification.reference judged.of_four in
    let product = product_by file s d.definition.valid d.definition.product told.product in
    let grid = grid_template file l.starts.three.0 judged.of_three in
    record {
      grid = grid;
      lambert = λ g kind. behind_shared d g kind ∙ ap pos (sym (ap template_of kind) ∙ grid);
      product = product.template (taken_is_template file s d.identification.reference judged.of_four);
      kind = product.kind;
      level = level_number file s d.definition.level told.level;
      template = template_number_lem file l.starts.five.0 judged.of_five;
      indicator = indicator_number file l.starts.six.0 l.bitmap _ _ judged.of_six;
    }
