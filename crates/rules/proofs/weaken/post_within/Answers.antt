-- The child's Q lies in Q.
use mathlib.Core.Path.{◌∙◌, sym}
use Rattle.states.proofs.Search.{holds_must}
use Rattle.semantics.specs.Conditions.{c73}
use Rattle.rules.proofs.weaken.post_within.Goals as goal

pub returns : goal.returns
unfolding c73
returns c = c.lies_in.ensures ∙ sym (holds_must _)
