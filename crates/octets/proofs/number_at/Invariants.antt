-- `octets::number_at` meets its contract. The invariant: `number` is what the octets passed hold, and it fits them.
use mathlib.Core.Path.{◌≡◌}
use Prim.Native.Nat.{◌^◌, ◌<◌}
use Rattle.octets.specs.Numbers.{number_at}
use Rattle.octets.proofs.number_at.Given as goal

abbrev pub invariant-loop-octet : goal.invariant-loop-octet
invariant-loop-octet l = (l.number ≡ number_at l.file l.fn.at.0 l.octet-index) × (l.number < 256 ^ l.octet-index)
