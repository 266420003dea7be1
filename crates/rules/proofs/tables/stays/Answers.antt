use Rattle.std.proofs.Common.{rules}
use Rattle.rules.proofs.Searches.{each_of_range}
use Rattle.semantics.specs.Conditions.{in_set}
use Rattle.rules.proofs.tables.stays.Goals as goal

pub returns : goal.returns
unfolding in_set
returns c = each_of_range _ _ _ _ c.all.ensures.ran (λ x b q k. search rules)
