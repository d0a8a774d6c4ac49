-- `tiling::find` meets its contract: past refusals 1 and 2 it is the tiling that answers.
use mathlib.Core.Path.{◌≡◌, sym, ◌∙◌}
use borrow.Author.Tests.{le-ltb}
use Rattle.tiling.specs.Tiling.{find}
use Rattle.tiling.proofs.Bounds.{find_lying}
use Rattle.tiling.proofs.find.Goals.{After-tile}
use Rattle.tiling.proofs.find.Goals as goal

found : (c : After-tile) → c.tile.result ≡ find c.args.file.now c.args.k
found c = rw (le-ltb _ _ c.if-file-gt268435456.false, sym c.is_empty.ensures ∙ c.if-is_empty.false) c.tile.ensures

pub returns : goal.returns
returns c = (found c, find_lying _ _ (found c))
