-- The word 0 has no bit.
use Rattle.states.specs.Sets.{has}
use Rattle.states.proofs.Words.{mem_nought}
use Rattle.states.proofs.StateSet.empty.Goals as goal

pub returns : goal.returns
unfolding has
returns c = mem_nought
