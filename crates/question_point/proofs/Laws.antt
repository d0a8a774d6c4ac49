-- What is known of one point of a field: its integer alone is the field's own, and what is answered of it.
use mathlib.Core.Path.{◌≡◌, refl, sym, ap, ◌∙◌, subst}
use mathlib.Core.Bool.{true, false}
use mathlib.Core.List.{List}
use Prim.Native.Nat.{ℕ, suc, ◌+◌, ◌≤◌, ◌<◌}
use native.Mathlib.Omega.{arith}
use lib.Dec.{eqb}
use lib.IntN.{nat_abs}
use Rattle.octets.proofs.Cases.{split}
use Rattle.refusals.specs.declared.Why.TheVariants as Why
use Rattle.refusals.specs.Refusals.{refusal}
use Rattle.doubles.specs.Doubles.{rebuilt}
use Rattle.tiling.specs.Tiling.{largest}
use Rattle.section_3_geometry.specs.Geometry.{points_of}
use Rattle.section_5_groups.specs.declared.Grouping.{Grouping}
use Rattle.section_5.specs.declared.Template.TheVariants as Template
use Rattle.section_7.specs.declared.Groups.{Groups}
use Rattle.section_7.specs.declared.Data.TheVariants as Data
use Rattle.section_7.specs.Packing.{groups_in}
use Rattle.values_points.specs.Written.{marks_in, Covers}
use Rattle.values_points.proofs.Laws.{rank_mono}
use Rattle.values_points.proofs.Marks.{ranked, field_covers, field_marks_lem, field_ranks}
use Rattle.values_integers.specs.Integers.{simple_integer, are_in_range}
use Rattle.values_integers.proofs.Range.{in_range_all, in_range_one}
use Rattle.values_complex.specs.Complex.{integer_in, single_of}
use Rattle.question.specs.declared.Description.{Description}
use Rattle.question.specs.Describe.{describe}
use Rattle.question.specs.Judge.{Known, integer_of}
use Rattle.question.proofs.Laws.{describe_placed, seven_placed}
use Rattle.question.proofs.Known.{run, bitmap, bitmap_lies, simple_decodable, complex_template}
use Rattle.question_place.specs.Place.{point_asked}
use Rattle.question_place.proofs.Laws.{Within, taken_point, point_taken, point_within}
use Rattle.question_decode.specs.Decoding.{packing_by, present_of, rank_of}
use Rattle.question_decode.proofs.Laws.{packed_marked, simple_size}
use Rattle.question_point.specs.Point.{point_length, value_by, pointed_at, point_if, pointed_by, point_into, point}
use Rattle.std.specs.Prelude.{Option, Some, None, Result, Ok, Err, ⊤, Float}
use Rattle.refusals.specs.declared.Refusal.{Refusal}

-- Of a field that is described: the integer numbered m alone, by either packing.
module _ (file : List ℕ) (d : Description) (known : Known file d) where
  pub simple_single : d.plan ≡ Data.Simple → {m : ℕ} → m < d.representation.n →
      Some (simple_integer (run file d known) d.representation.bits m) ≡ single_of (integer_of file d) m
  simple_single e {m} inside =
      let upto : are_in_range (integer_of file d) (suc m) ≡ true =
      in_range_all (integer_of file d) (suc m) (λ j h. in_range_one (integer_of file d) d.representation.n (simple_decodable file d known e) (omega arith)) in
      rw upto (ap Some (simple_size file d known e m))

  planned_single : (g : Grouping) → d.representation.template ≡ Template.Complex g → (m : ℕ) →
      single_of (integer_in (run file d known) (groups_in file d.starts.seven.0 d.representation.bits g)) m ≡ single_of (integer_of file d) m
  planned_single g e m = rw e

  pub groups_single : {groups : Groups} → d.plan ≡ Data.Complex groups → (m : ℕ) → single_of (integer_in (run file d known) groups) m ≡ single_of (integer_of file d) m
  groups_single e m =
      let t = complex_template file d known e in
      subst (λ (g : Groups). single_of (integer_in (run file d known) g) m ≡ single_of (integer_of file d) m) (sym t.2) (planned_single t.0 t.1 m)

  -- The bitmap in force has a bit for each point, or is empty, and tells of it what the field does.
  module _ {n : ℕ} (below : n < points_of d.grid) where
    pub point_covered : (i : ℕ) → i ≤ n + 1 → Covers (bitmap file d known) i
    point_covered i h some = omega (arith, field_covers file d.presence (points_of d.grid) (bitmap_lies file d known) some)

    pub point_marked : present_of file d n ≡ (marks_in (bitmap file d known)).mark n
    point_marked = field_marks_lem file d.presence (points_of d.grid) (bitmap_lies file d known) n below

    pub point_ranked : rank_of file d n ≡ (marks_in (bitmap file d known)).rank n
    point_ranked = field_ranks file d.presence (points_of d.grid) (bitmap_lies file d known) n (omega arith)

    -- A point that is present has an integer of its own.
    pub present_packed : (marks_in (bitmap file d known)).mark n ≡ 1 → (marks_in (bitmap file d known)).rank n < d.representation.n
    present_packed one =
        let r = ranked (bitmap file d known) in
        omega (arith, r.more n, packed_marked file d known, rank_mono (marks_in (bitmap file d known)) r.more {i = n + 1} (points_of d.grid) (omega arith))

-- What is told of point n of a field: it is missing, or it has its value, or an integer up to its own is out of its range.
module _ (file : List ℕ) (d : Description) (n : ℕ) where
  pub told_missing : present_of file d n ≡ 0 → pointed_at file d n ≡ Ok None
  told_missing missing = rw missing

  pub told_value_lem : present_of file d n ≡ 1 → are_in_range (integer_of file d) (suc (rank_of file d n)) ≡ true →
      pointed_at file d n ≡ Ok (Some (rebuilt (packing_by d.representation) (nat_abs (integer_of file d (rank_of file d n)))))
  told_value_lem present inside = rw (present, inside)

  pub told_out : present_of file d n ≡ 1 → are_in_range (integer_of file d) (suc (rank_of file d n)) ≡ false → pointed_at file d n ≡ Err (refusal Why.ValueOutOfRange d.starts.seven.0)
  told_out present outside = rw (present, outside)

-- What is answered of it: an answer has an element to be put into, and a refusal is placed within the largest file that is taken.
abbrev pub Answerable : ℕ → Result (Option Float) Refusal → Type 0
Answerable room (Ok (Some v)) = 1 ≤ room
Answerable room (Ok None) = 1 ≤ room
Answerable room (Err r) = r.place.0 ≤ largest

module _ (file : List ℕ) (k n room : ℕ) where
  value_answerable : (d : Description) → describe file k ≡ Ok d → 1 ≤ room → (m : ℕ) → Answerable room (value_by file d m)
  value_answerable d said fits m =
      split (are_in_range (integer_of file d) (suc m)) (λ inside. rw inside fits) (λ outside. rw outside (seven_placed file k said))

  pub point_answerable : Answerable room (point_into file k n room)
  point_answerable = by (describe file k) refl
    where
      taken : (d : Description) → describe file k ≡ Ok d → (a : Result ⊤ Refusal) → point_asked n point_length room d.grid ≡ a → Answerable room (point_if file d n a)
      taken d said (Ok tt) is =
          let fits = (taken_point n point_length room d.grid is).1 in
          split (eqb (present_of file d n) 1) (λ present. rw present (value_answerable d said fits (rank_of file d n))) (λ missing. rw missing fits)
      taken d said (Err r) is = subst Within is (point_within n point_length room d.grid)

      by : (a : Result Description Refusal) → describe file k ≡ a → Answerable room (pointed_by file n room a)
      by (Ok d) said = taken d said (point_asked n point_length room d.grid) refl
      by (Err r) said = describe_placed file k said

-- A question that is answered is about a point that its field has, there is room, and the answer is that of the point alone.
abbrev pub IsAnswer : Result (Option Float) Refusal → Type 0
IsAnswer (Ok (Some v)) = Unit {0}
IsAnswer (Ok None) = Unit {0}
IsAnswer (Err r) = ⊥

module _ (file : List ℕ) (k n : ℕ) where
  pub record Told (a : Result (Option Float) Refusal) : Type 0 where
    pub d : Description
    pub describes : describe file k ≡ Ok d
    pub below : n < points_of d.grid
    pub alone : point file k n ≡ a

  pub answered_point : (room : ℕ) (a : Result (Option Float) Refusal) → point_into file k n room ≡ a → IsAnswer a → Told a
  answered_point room a = by (describe file k) refl
    where
      taken : (d : Description) → describe file k ≡ Ok d → (b : Result ⊤ Refusal) → point_asked n point_length room d.grid ≡ b → point_if file d n b ≡ a → IsAnswer a → Told a
      taken d said (Ok tt) is e _ =
          let below = (taken_point n point_length room d.grid is).0 in
          record {
            d = d;
            describes = said;
            below = below;
            alone = ap (pointed_by file n point_length) said ∙ ap (point_if file d n) (point_taken n point_length point_length d.grid below (omega arith)) ∙ e;
          }
      taken d said (Err r) is e answer = absurd (subst IsAnswer (sym e) answer)

      by : (b : Result Description Refusal) → describe file k ≡ b → pointed_by file n room b ≡ a → IsAnswer a → Told a
      by (Ok d) said e answer = taken d said (point_asked n point_length room d.grid) refl e answer
      by (Err r) said e answer = absurd (subst IsAnswer (sym e) answer)
