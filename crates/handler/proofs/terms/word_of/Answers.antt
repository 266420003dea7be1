-- The sum is the definition's, and the node fits.
use mathlib.Core.Path.{refl}
use Rattle.handler.specs.Terms.{term_word}
use Rattle.handler.proofs.terms.word_of.Goals as goal

pub returns : goal.returns
unfolding term_word
returns c = refl
