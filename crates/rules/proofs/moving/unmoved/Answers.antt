-- The count is the definition's.
use mathlib.Core.Path.{ap}
use lib.Dec.{eqb}
use Rattle.rules.proofs.moving.unmoved.Goals as goal

pub returns : goal.returns
returns c = ap (λ k. eqb k 0) c.occurrences_at.ensures
