-- `doubles::power_of_two` meets its contract: either arm makes the pattern of the power.
use mathlib.Core.Bool.{true}
use Prim.Native.Nat.{◌+◌, ◌-◌, ◌*◌, ◌^◌}
use lib.IntN.{pos}
use Rattle.octets.specs.Numbers.{whole_of}
use Rattle.doubles.proofs.Powers.{two_up, two_down, ordinary_pattern}
use Rattle.doubles.proofs.power_of_two.Goals as goal

pub float_from_bits-result : goal.float_from_bits-result
float_from_bits-result c =
    let size = c.args.e.size in
    ordinary_pattern ((1023 - size) * 2 ^ 52) (whole_of true size) (two_down size c.requires)

pub float_from_bits-result-else-e : goal.float_from_bits-result-else-e
float_from_bits-result-else-e c =
    let size = c.args.e.size in
    ordinary_pattern ((1023 + size) * 2 ^ 52) (pos size) (two_up size c.requires)
