-- `find` gives the first table with equal members.
use Rattle.std.proofs.Common.{rules}
use Rattle.canonical.proofs.Equal.{least_found}
use Rattle.canonical.proofs.tables.least_equal.Goals as goal

pub returns : goal.returns
returns c = rw c.unwrap_or.ensures (least_found _ _ _ _ c.find.ensures.ran (λ j b q k. search rules))
