-- The child's G lies in G.
use mathlib.Core.Path.{◌∙◌, sym}
use Rattle.states.proofs.Search.{holds_must}
use Rattle.semantics.specs.Conditions.{c72}
use Rattle.rules.proofs.weaken.guarantee_within.Goals as goal

pub returns : goal.returns
unfolding c72
returns c = c.lies_in.ensures ∙ sym (holds_must _)
