-- RULES, "The picture": the greys of a field's integers, in the order in which these are packed.
use Rattle.std.specs.Prelude.{ℕ}
use Rattle.greys.specs.declared.Scale.{Scale}
use Rattle.greys.specs.Greys.{grey_of}

-- The grey of the integer numbered m.
abbrev pub packed_grey : Scale → (ℕ → ℕ) → ℕ → ℕ
packed_grey s x m = grey_of s.largest (x m)
