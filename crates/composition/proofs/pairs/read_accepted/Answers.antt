-- A pair that was accepted is not refused by its reading.
use mathlib.Core.Path.{sym, ◌∙◌}
use Rattle.composition.proofs.BothPairs.{not_refused}
use Rattle.composition.proofs.pairs.read_accepted.Goals as goal

pub unreachable-requires : goal.unreachable-requires
unreachable-requires c = not_refused _ _ c.requires _ (sym c.in_default.is ∙ c.read_pair.ensures)
