-- What a caller may rely on: the times of a definition are Gregorian, and an interval's end is the time that its length leads to.
use Prim.Native.Nat.{ℕ}
use mathlib.Core.Path.{◌≡◌, refl, ap, subst, sym, ◌∙◌}
use mathlib.Core.Bool.{true, false}
use mathlib.Core.List.{List}
use native.Mathlib.Omega.{arith}
use borrow.Author.Tests.{ltb-false}
use lib.Dec.{eqb, ltb, leb}
use Rattle.octets.specs.Places.{place_of}
use Rattle.std.specs.declared.cmp.Ordering.{Ordering}
use Rattle.octets.proofs.Cases.{apart, split}
use Rattle.section.specs.Sections.{octet, held, held_signed}
use Rattle.calendar.specs.declared.Time.{Time}
use Rattle.calendar.specs.declared.Unit.{Unit}
use Rattle.calendar.specs.Calendar.{Gregorian, time_at, plus, ordered, fourteen_digits}
use Rattle.calendar.proofs.Laws.{read_is_gregorian, plus_is_gregorian, same_digits_same_time}
use Rattle.section_4.specs.declared.Kind.{Kind}
use Rattle.section_4.specs.declared.Level.{Level}
use Rattle.section_4.specs.declared.Product as declaredProduct
use Rattle.section_4.specs.declared.Product.{Product}
use Rattle.section_4.specs.declared.ProductDefinition.{ProductDefinition}
use Rattle.section_4.specs.Product.{product_template_at, is_product, level_at, later, agreed, ending, interval_of, product_at, defined_by, defined_at, product_definition_at}
use Rattle.section_4.proofs.Tests.{valid_moment, end_moment}
use Rattle.std.specs.Prelude.{Option, Some, None}

-- A definition is known by what it tells, a section that is not taken has none, and what is bad is no product.
no_definition : {A : Type 0} {d : ProductDefinition} → None ≡ Some d → A
no_definition {A} {d} e = apart cc

same_definition : {x d : ProductDefinition} → Some x ≡ Some d → x ≡ d
same_definition {x} {d} e = cc

no_product : {A : Type 0} {p : declaredProduct.Product} → None ≡ Some p → A
no_product {A} {p} e = apart cc

-- A time that is reached is one that the calendar reaches, by one of the units.
pub later_is_plus : (time t : Time) (count unit : ℕ) → later time count unit ≡ Some t → (u : Unit) × (plus time count u ≡ Some t)
later_is_plus time t count unit e =
    split (eqb unit 0) (λ minute. (Unit.Minute, rw minute at e))
    (λ minute.
    split (eqb unit 1) (λ hour. (Unit.Hour, rw (minute, hour) at e))
    (λ hour.
    split (eqb unit 2) (λ day. (Unit.Day, rw (minute, hour, day) at e))
    (λ day. let never : None ≡ Some t = rw (minute, hour, day) at e in apart cc)))

pub later_is_gregorian : (time t : Time) (count unit : ℕ) → Gregorian time → later time count unit ≡ Some t → Gregorian t
later_is_gregorian time t count unit h e = let moved = later_is_plus time t count unit e in plus_is_gregorian time t count moved.0 h moved.1

-- What a definition tells: the valid time is reached, and level and product are those of the section.
pub record Tells (file : List ℕ) (s : ℕ) (reference : Time) (d : ProductDefinition) : Type 0 where
  pub moment : later reference (held file s 19 22) (octet file s 18) ≡ Some d.valid
  pub level : level_at file s ≡ Some d.level
  pub product : product_at file s d.valid ≡ Some d.product

pub defined_tells : (file : List ℕ) (s : ℕ) (reference : Time) {d : ProductDefinition} → product_definition_at file s reference ≡ Some d → Tells file s reference d
unfolding product_definition_at
defined_tells file s reference {d} e =
    split (is_product file s) (λ test. by_moment (valid_moment file s reference) refl (rw test at e))
    (λ test. no_definition (rw test at e))
  where
    by_parts : (valid : Time) → valid_moment file s reference ≡ Some valid → (l : Option (Option Level)) → level_at file s ≡ l → (p : Option Product) → product_at file s valid ≡ p → defined_by file s valid l p ≡ Some d → Tells file s reference d
    by_parts valid moved (Some level) read (Some product) told defined =
        subst (Tells file s reference) (same_definition defined) (record { moment = moved; level = read; product = told })
    by_parts valid moved (Some level) read None told defined = no_definition defined
    by_parts valid moved None read p told defined = no_definition defined

    by_moment : (m : Option Time) → valid_moment file s reference ≡ m → defined_at file s m ≡ Some d → Tells file s reference d
    by_moment (Some valid) moved defined = by_parts valid moved (level_at file s) refl (product_at file s valid) refl defined
    by_moment None moved defined = no_definition defined

-- The valid time of a definition is Gregorian.
pub defined_valid : (file : List ℕ) (s : ℕ) (reference : Time) {d : ProductDefinition} → Gregorian reference → product_definition_at file s reference ≡ Some d → Gregorian d.valid
defined_valid file s reference {d} h e = later_is_gregorian reference d.valid (held file s 19 22) (octet file s 18) h (defined_tells file s reference e).moment

-- A level that was read is none, where octet 24 is all ones, and otherwise the factor and the scaled level that the octets hold.
pub level_read : (file : List ℕ) (s : ℕ) (P : Option Level → Type 0) (level : Option Level) →
    level_at file s ≡ Some level →
    (eqb (octet file s 24) 255 ≡ true → P None) →
    (eqb (octet file s 24) 255 ≡ false → P (Some (record { factor = held_signed file s 24 24; scaled = held file s 25 28 }))) →
    P level
level_read file s P level e absent at =
    split (eqb (octet file s 24) 255)
    (λ all.
    split (eqb (held file s 25 28) 0xffff_ffff)
    (λ ones. let same : None ≡ level = cc (rw (all, ones) at e) in subst P same (absent all))
    (λ not. apart (cc (rw (all, not) at e))))
    (λ some.
    split (leb (held file s 25 28) 2147483647)
    (λ few.
    let same : Some (record { factor = held_signed file s 24 24; scaled = held file s 25 28 }) ≡ level = cc (rw (some, few) at e) in
    subst P same (at some))
    (λ many. apart (cc (rw (some, many) at e))))

-- Two times that come neither before nor after one another have the same digits.
same_order : (a b : Time) → ordered a b ≡ Ordering.Equal → fourteen_digits a ≡ fourteen_digits b
same_order a b e =
    split (ltb (fourteen_digits a) (fourteen_digits b)) (λ before. apart cc)
    (λ before.
    split (ltb (fourteen_digits b) (fourteen_digits a)) (λ after. apart cc)
    (λ after. omega (arith, ltb-false)))

-- What an interval tells: its end is read, and its length leads to the same time.
record Ends (read : Option Time) (moved : Option Time) (end : Time) : Type 0 where
  pub told : read ≡ Some end
  pub reached : Time
  pub leads : moved ≡ Some reached
  pub same : ordered end reached ≡ Ordering.Equal

interval_ends : (k : Kind) (read : Option Time) (moved : Option Time) {end : Time} {kind : Kind} → ending k read moved ≡ Some (Product.Interval end kind) → Ends read moved end
interval_ends k (Some t) (Some r) {end} {kind} e = by (ordered t r) refl e
  where
    by : (o : Ordering) → ordered t r ≡ o → agreed t k o ≡ Some (Product.Interval end kind) → Ends (Some t) (Some r) end
    by Ordering.Equal same is =
        let ends : t ≡ end = cc in
        subst (Ends (Some t) (Some r)) ends (record { told = refl; reached = r; leads = refl; same = same })
    by Ordering.Less same is = no_product is
    by Ordering.Greater same is = no_product is
interval_ends k (Some t) None e = no_product e
interval_ends k None moved e = no_product e

product_ends : (file : List ℕ) (s : ℕ) (valid : Time) {end : Time} {kind : Kind} → product_at file s valid ≡ Some (Product.Interval end kind) → Ends (time_at file (place_of s 35)) (end_moment file s valid) end
product_ends file s valid {end} {kind} e =
    split (eqb (product_template_at file s) 0) (λ instant. no_interval (rw instant at e))
    (λ instant.
    split (eqb (octet file s 42) 1)
    (λ one.
    split (eqb (octet file s 47) 0) (λ mean. of_kind Kind.Mean (rw (instant, one, mean) at e))
    (λ mean.
    split (eqb (octet file s 47) 1) (λ sum. of_kind Kind.Sum (rw (instant, one, mean, sum) at e))
    (λ sum. no_product (rw (instant, one, mean, sum) at e))))
    (λ one. no_product (rw (instant, one) at e)))
  where
    of_kind : (k : Kind) → interval_of file s valid k ≡ Some (Product.Interval end kind) → Ends (time_at file (place_of s 35)) (end_moment file s valid) end
    of_kind k is = interval_ends k (time_at file (place_of s 35)) (end_moment file s valid) is

    no_interval : {A : Type 0} → Some Product.Instant ≡ Some (Product.Interval end kind) → A
    no_interval is = apart cc

module _ (file : List ℕ) (s : ℕ) (reference : Time) {d : ProductDefinition} {end : Time} {kind : Kind} where
  defined_ends : product_definition_at file s reference ≡ Some d → d.product ≡ Product.Interval end kind → Ends (time_at file (place_of s 35)) (end_moment file s d.valid) end
  defined_ends e interval = product_ends file s d.valid ((defined_tells file s reference e).product ∙ ap Some interval)

  -- The end of an interval is Gregorian.
  pub defined_end : Gregorian reference → product_definition_at file s reference ≡ Some d → d.product ≡ Product.Interval end kind → Gregorian end
  defined_end h e interval = read_is_gregorian file (place_of s 35) end (defined_ends e interval).told

  -- The end of an interval is the time that its length leads to, from the valid time on, in the unit of octet 49.
  pub end_is_later : Gregorian reference → product_definition_at file s reference ≡ Some d → d.product ≡ Product.Interval end kind → later d.valid (held file s 50 53) (octet file s 49) ≡ Some end
  end_is_later h e interval =
      let ends = defined_ends e interval in
      let valid = defined_valid file s reference h e in
      let arrived = later_is_gregorian d.valid ends.reached (held file s 50 53) (octet file s 49) valid ends.leads in
      let digits = same_order end ends.reached ends.same in
      let same = same_digits_same_time end ends.reached (defined_end h e interval) arrived digits in
      ends.leads ∙ ap Some (sym same)

  -- The same by the calendar, for one of the units.
  pub end_is_reached : Gregorian reference → product_definition_at file s reference ≡ Some d → d.product ≡ Product.Interval end kind → (u : Unit) × (plus d.valid (held file s 50 53) u ≡ Some end)
  end_is_reached h e interval = later_is_plus d.valid end (held file s 50 53) (octet file s 49) (end_is_later h e interval)
