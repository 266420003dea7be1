use Rattle.std.proofs.Common.{rules}
use Rattle.rules.proofs.Searches.{each_of_range}
use Rattle.semantics.specs.Conditions.{in_set, c55}
use Rattle.rules.proofs.iteration.rely_descends.Goals as goal

pub returns : goal.returns
unfolding in_set c55
returns c = each_of_range _ _ _ _ c.all.ensures.ran (λ x b q k. search rules)
