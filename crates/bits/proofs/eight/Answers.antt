-- `bits::eight` meets its contract: the octets of the range, each of its worth, are the number that the definition builds octet by octet.
use Rattle.std.proofs.Common.{arith, ◌≡◌, ℕ, ◌+◌, ◌-◌, ◌<◌, get_or-take, get_or-drop}
use Rattle.std.specs.List.{slice_index}
use Rattle.octets.specs.Numbers.{number_at, octet_at}
use Rattle.bits.proofs.eight.Goals as goal

pub returns : goal.returns
unfolding number_at
returns c =
    let from = c.args.from in
    let octets = (rw c.unwrap.ensures at c.try_into.ensures.1).same in
    let each : (i : ℕ) → i < 8 → slice_index c.unwrap.result i ≡ octet_at c.args.run.now (from + i) =
    λ i h. let near : i < from + 8 - from = omega arith in rw (octets, get_or-take, get_or-drop) in
    omega (arith, each 0, each 1, each 2, each 3, each 4, each 5, each 6, each 7)
