-- `octets::number_at` meets its contract: an octet of the part is one of the file, and what fits `count` octets fits 64 bits.
use mathlib.Core.Path.{◌≡◌, refl}
use Prim.Native.Nat.{◌+◌, ◌-◌, ◌*◌, ◌^◌, ◌<◌}
use native.Mathlib.Omega.{arith}
use borrow.Author.Rules.{rules}
use lib.Dec.{lit<}
use lib.ListN.{take, drop, get_or}
use Rattle.std.proofs.lemmas.List.Edits.{get_or-between}
use Rattle.octets.specs.Numbers.{octet_at}
use Rattle.octets.proofs.Laws.{number_none, number_more, more_fits, fits_eight}
use Rattle.octets.proofs.number_at.Goals.{In-loop-octet}
use Rattle.octets.proofs.number_at.Goals as goal

pub loop-octet-init : goal.loop-octet-init
loop-octet-init c = simp number_none (refl, search rules)

pub overflow_mul-number : goal.overflow_mul-number
overflow_mul-number c =
    let l = c.loop-octet in
    omega (arith, more_fits l.octet-index {b = 0} l.invariant.1 (lit< tt), fits_eight (l.octet-index + 1) (search rules))

-- The octet passed is the file's.
octet :
    (c : In-loop-octet)
    → let a = c.args in let i = c.loop-octet.octet-index in get_or (take (a.at.0 + a.count - a.at.0) (drop a.at.0 a.file.now)) i 0 ≡ octet_at a.file.now (a.at.0 + i)
octet c = get_or-between c.args.file.now c.args.at.0 (c.args.at.0 + c.args.count) c.loop-octet.octet-index 0 (omega arith)

-- With it, the number still fits its octets.
more : (c : In-loop-octet) → let a = c.args in let l = c.loop-octet in l.number * 256 + octet_at a.file.now (a.at.0 + l.octet-index) < 256 ^ (l.octet-index + 1)
more c = more_fits c.loop-octet.octet-index c.loop-octet.invariant.1 (c.type_inv.file (c.args.at.0 + c.loop-octet.octet-index)).fits

pub overflow_add-number : goal.overflow_add-number
overflow_add-number c =
    let w = (goal.at.overflow_add-number c).In-loop-octet in omega (arith, octet w, more w, fits_eight (c.loop-octet.octet-index + 1) (search rules))

pub loop-octet-preserved : goal.loop-octet-preserved
loop-octet-preserved c =
    let w = (goal.at.loop-octet-preserved c).In-loop-octet in rw (octet w) (rw (number_more, ← c.loop-octet.invariant.0), more w)
