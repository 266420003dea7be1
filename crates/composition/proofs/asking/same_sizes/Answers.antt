-- The four sizes are those of the heads, and `heads_same` compares the heads.
use Rattle.states.specs.Search.{all}
use Rattle.composition.proofs.Asked.{heads_same}
use Rattle.composition.proofs.asking.same_sizes.Goals as goal

pub returns : goal.returns
unfolding all
returns c s t e e' few few' = heads_same _ _ s t e e' few
