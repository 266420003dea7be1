-- The pairs of the union's rows.
use Rattle.composition.proofs.Filled.{joined_rel}
use Rattle.composition.proofs.tables.joined.Goals as goal

pub returns : goal.returns
returns c most = joined_rel _ most _ _ _ c.union_of.ensures
