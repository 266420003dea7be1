use Rattle.std.proofs.Common.{rules}
use Rattle.states.proofs.Ranges.{all_of_range}
use Rattle.semantics.specs.Conditions.{same_relation}
use Rattle.rules.proofs.tables.is_join.Goals as goal

pub returns : goal.returns
unfolding same_relation
returns c = all_of_range _ _ _ _ c.all.ensures.ran (λ x b q k. search rules)
