-- The count is the definition's.
use mathlib.Core.Path.{ap}
use lib.Dec.{leb}
use Rattle.rules.proofs.moving.read_once.Goals as goal

pub returns : goal.returns
returns c = ap (λ k. leb k 1) c.occurrences_at.ensures
