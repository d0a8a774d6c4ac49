-- The theorem `message_moved`: a message that stands octet for octet at another place, perhaps of another file, is a message there, with the
-- same fields, each where it lies moved along with the message.
use Prim.Native.Nat.{ℕ, zero, suc, ◌+◌, ◌-◌, ◌*◌, ◌≤◌, ◌<◌}
use mathlib.Core.Path.{◌≡◌, refl, ap₂, ◌∙◌}
use mathlib.Core.Bool.{Bool, true, false, cond}
use mathlib.Core.List.{List, map, map-append}
use native.Mathlib.Omega.{arith}
use borrow.Author.Tests.{leb-true}
use lib.Dec.{leb, eqb}
use lib.ListN.{length}
use Rattle.std.specs.Prelude.{Option, Some}
use Rattle.octets.specs.declared.FilePlace.{FilePlace}
use Rattle.octets.specs.Numbers.{octet_at, number_at}
use Rattle.octets.proofs.Cases.{split}
use Rattle.octets.specs.Places.{at}
use Rattle.section.specs.Sections.{length_at}
use Rattle.tiling_sections.specs.declared.Located.{Located}
use Rattle.tiling.specs.Tiling.{stated_at}
use Rattle.theorems_grammar.specs.Grammar as Grammar
use Rattle.theorems_grammar.specs.Grammar.{Section, Field, Fields, GridPart, GridParts, Message, bitmap_of}
use Rattle.theorems_grammar.specs.Moved.{Copied, moved, bitmap_moved, located_moved}
use Rattle.theorems_grammar.proofs.Complete.{section_grows, field_grows, fields_grow, grid_grows, grids_grow}

module _ (file other : List ℕ) (a b c : ℕ) (copied : Copied file a b other c) where
  abbrev to : ℕ → ℕ
  to = moved a c

  -- The octet at p, and the number in n octets from p on, stand at q in the other file.
  octet_moved : (p q : ℕ) → (q ≡ to p) × (a ≤ p) × (p < b) → octet_at other q ≡ octet_at file p
  octet_moved p q h = rw h.0 (copied p h.1 h.2)

  number_moved : (n p q : ℕ) → (q ≡ to p) × (a ≤ p) × (p + n ≤ b) → number_at other q n ≡ number_at file p n
  unfolding number_at
  number_moved zero p q h = refl
  number_moved (suc n) p q h = ap₂ (λ (x y : ℕ). x * 256 + y) (number_moved n p q (omega arith)) (octet_moved (p + n) (q + n) (omega arith))

  section_moved : {n p q : ℕ} → Section file n p q → (a ≤ p) × (q ≤ b) → Section other n (to p) (to q)
  section_moved {n} {p} {q} s h =
      let grows : p + 5 ≤ q = section_grows s in
      let same : length_at other (to p) ≡ length_at file p = number_moved 4 _ _ (omega arith) in
      record { least = rw same s.least; ends = rw same (omega (arith, s.ends)); numbered = octet_moved _ _ (omega arith) ∙ s.numbered }

  abbrev field_moved : {p q : ℕ} → Field file p q → (a ≤ p) × (q ≤ b) → Field other (to p) (to q)
  field_moved {p} {q} f h =
      let i5 : p + 5 ≤ f.p5 = section_grows f.four in
      let i6 : f.p5 + 5 ≤ f.p6 = section_grows f.five in
      let i7 : f.p6 + 5 ≤ f.p7 = section_grows f.six in
      let i8 : f.p7 + 5 ≤ q = section_grows f.seven in
      record {
        p5 = to f.p5;
        p6 = to f.p6;
        p7 = to f.p7;
        four = section_moved f.four (omega arith);
        five = section_moved f.five (omega arith);
        six = section_moved f.six (omega arith);
        seven = section_moved f.seven (omega arith);
      }

  bitmap_moved_lem : (bitmap : Option FilePlace) {p q : ℕ} (f : Field file p q) (h : (a ≤ p) × (q ≤ b)) → bitmap_of (bitmap_moved a c bitmap) (field_moved f h) ≡ bitmap_moved a c (bitmap_of bitmap f)
  bitmap_moved_lem bitmap f h =
      let start : a ≤ f.p6 = omega (arith, section_grows f.four, section_grows f.five) in
      let end : f.p7 ≤ b = omega (arith, section_grows f.seven) in
      let size : to f.p7 - to f.p6 ≡ f.p7 - f.p6 = omega arith in
      split (leb 6 (f.p7 - f.p6))
      (λ i.
      let sixth : octet_at other (to f.p6 + 5) ≡ octet_at file (f.p6 + 5) = octet_moved _ _ (omega (arith, leb-true 6 (f.p7 - f.p6) i)) in
      rw (size, sixth, i) (by (eqb (octet_at file (f.p6 + 5)) 0)))
      (λ i. rw (size, i))
    where
      by : (own : Bool) → cond own (Some (at (to f.p6))) (bitmap_moved a c bitmap) ≡ bitmap_moved a c (cond own (Some (at f.p6)) bitmap)
      by true = refl
      by false = refl

  fields_moved : {start one three : ℕ} {bitmap : Option FilePlace} {p q : ℕ} {fs : List Located} → Fields file start one three bitmap p q fs → (a ≤ p) × (q ≤ b) → Fields other (to start) (to one) (to three) (bitmap_moved a c bitmap) (to p) (to q) (map (located_moved a c) fs)
  fields_moved {bitmap} (Grammar.Fields.last f) h = rw (← bitmap_moved_lem bitmap f h) (Grammar.Fields.last (field_moved f h))
  fields_moved {bitmap} {p} (Grammar.Fields.more {b = r} f rest) h =
      let inside : (a ≤ p) × (r ≤ b) = omega (arith, fields_grow rest) in
      rw (← bitmap_moved_lem bitmap f inside)
      (Grammar.Fields.more (field_moved f inside) (rw (← bitmap_moved_lem bitmap f inside) at (fields_moved rest (omega (arith, field_grows f)))))

  grid_moved : {start one p q : ℕ} {fs : List Located} → GridPart file start one p q fs → (a ≤ p) × (q ≤ b) → GridPart other (to start) (to one) (to p) (to q) (map (located_moved a c) fs)
  grid_moved g h =
      record {
        p4 = to g.p4;
        three = section_moved g.three (omega (arith, fields_grow g.fields));
        fields = fields_moved g.fields (omega (arith, section_grows g.three));
      }

  grids_moved : {start one p q : ℕ} {fs : List Located} → GridParts file start one p q fs → (a ≤ p) × (q ≤ b) → GridParts other (to start) (to one) (to p) (to q) (map (located_moved a c) fs)
  grids_moved (Grammar.GridParts.last g) h = Grammar.GridParts.last (grid_moved g h)
  grids_moved (Grammar.GridParts.more {fs} {gs} g r) h =
      rw (map-append (located_moved a c) fs gs) (Grammar.GridParts.more (grid_moved g (omega (arith, grids_grow r))) (grids_moved r (omega (arith, grid_grows g))))

  -- A message that is copied from a to c is a message there, with its fields moved along.
  pub message_moved : {fs : List Located} → Message file a b fs → c + (b - a) ≤ length other → Message other c (c + (b - a)) (map (located_moved a c) fs)
  message_moved m room =
      let one_grows : a + 16 + 5 ≤ m.p3 = section_grows m.one in
      let rest-grows : m.p3 + 25 ≤ m.p7777 = grids_grow m.grids in
      let closed : m.p7777 + 4 ≡ b = m.closed in
      let opens : to a ≡ c = omega arith in
      let first : to (a + 16) ≡ c + 16 = omega arith in
      let same : stated_at other c ≡ stated_at file a = number_moved 8 _ _ (omega arith) in
      record {
        mark = number_moved 4 _ _ (omega arith) ∙ m.mark;
        edition = number_moved 1 _ _ (omega arith) ∙ m.edition;
        stated = rw same (omega (arith, m.stated));
        inside = room;
        p3 = to m.p3;
        p7777 = to m.p7777;
        one = rw first at (section_moved m.one (omega arith));
        grids = rw (opens, first) at (grids_moved m.grids (omega arith));
        closing = number_moved 4 _ _ (omega arith) ∙ m.closing;
        closed = omega arith;
      }
