-- The proof of demand 3: the double of a point that is present is the one that is rebuilt from R, E, D and X, and these are in their limits.
use mathlib.Core.Path.{◌≡◌, sym, ap, ◌∙◌, subst}
use mathlib.Core.List.{List}
use Prim.Native.Nat.{ℕ}
use lib.IntN.{pos}
use lib.Ieee.{Float}
use Rattle.doubles.specs.Doubles.{value_of}
use Rattle.theorems_bound.specs.Bound.{Meets, InLimits}
use Rattle.theorems_bound.proofs.Meets.{rebuilt_meets}
use Rattle.question.specs.declared.Description.{Description}
use Rattle.question.specs.Judge.{Known, integer_of}
use Rattle.question.proofs.Laws.{judged_described}
use Rattle.question.proofs.Known.{scaled}
use Rattle.question_decode.specs.Decoding.{rank_of}
use Rattle.theorems_demands.specs.Demand2.{BothRuns, Call, left_behind, Decodes}
use Rattle.theorems_demands.specs.Alone.{Present}
use Rattle.theorems_demands.specs.Demand3.{RebuiltNear, AllNear, Demand3}
use Rattle.theorems_demands.proofs.Demand1.{described_is}
use Rattle.theorems_demands.proofs.Alone.{told_alone}

-- A whole number is one alone.
pub one_integer : {m n : ℕ} → pos m ≡ pos n → m ≡ n
one_integer e = cc

-- The double of a point that is present in a field that is described.
pub present_near : (file : List ℕ) (d : Description) → Known file d → {i x : ℕ} {told : Float} → Present file d i told → integer_of file d (rank_of file d i) ≡ pos x → RebuiltNear d x told
present_near file d known {x = x} p standard =
    let same : p.x ≡ x = one_integer (sym p.standard ∙ standard) in
    let within : InLimits d.representation.r d.representation.e d.representation.d x =
    record { scaled = scaled file d known; packed = rw same at p.in_range } in
    record {
      limits = within;
      meets = subst (Meets _ _ _) (sym (p.double ∙ ap (value_of d.representation.r d.representation.e d.representation.d) same)) (rebuilt_meets _ _ _ x within);
    }

-- At each point that is present, whatever has decoded the field.
pub decodes_near : (file : List ℕ) (c : Call) (left : BothRuns) (d : Description) → Decodes file c left d → AllNear file c left d
decodes_near file c left d decodes i x inside mark standard =
    present_near file d (c.k, described_is file decodes.describes.1 ∙ judged_described file decodes.describes.0 decodes.describes.2) ((decodes.points i inside).present mark) standard

pub demand_3 : (file : List ℕ) → Demand3 file
demand_3 file =
    record {
      near = λ c n d answers decodes. decodes_near file c (left_behind file c) d decodes;
      near_alone = λ k n x d v said below told standard. present_near file d (k, said) ((told_alone file k n said below).value v told) standard;
    }
