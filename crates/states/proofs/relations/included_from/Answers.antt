use Rattle.std.proofs.Common.{rules}
use Rattle.states.proofs.Ranges.{all_of_range}
use Rattle.states.proofs.relations.included_from.Goals as goal

pub returns : goal.returns
returns c = all_of_range _ _ _ _ c.all.ensures.ran (λ x b q k. search rules)
