-- The least member is the lowest bit that is set.
use Rattle.states.specs.Sets.{has}
use Rattle.states.proofs.Words.{least_word}
use Rattle.states.proofs.StateSet.least.Goals as goal

pub returns : goal.returns
unfolding has
returns c = least_word _ c.struct_known-1.given.0.fits
