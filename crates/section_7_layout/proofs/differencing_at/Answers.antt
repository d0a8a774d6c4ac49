-- `section_7_layout::differencing_at` meets its contract: a number of at most four octets fits 32 bits.
use Rattle.std.proofs.Common.{arith}
use Rattle.section_7_layout.proofs.Laws.{fits_four}
use Rattle.section_7_layout.proofs.differencing_at.Goals as goal

pub overflow_cast-first : goal.overflow_cast-first
overflow_cast-first c = omega (arith, fits_four _ (omega arith) c.held-first.ensures.1)

pub overflow_cast-second : goal.overflow_cast-second
overflow_cast-second c = omega (arith, fits_four _ (omega arith) c.held-second.ensures.1)
