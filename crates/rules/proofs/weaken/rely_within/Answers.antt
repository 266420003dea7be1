-- R lies in the child's R.
use mathlib.Core.Path.{◌∙◌, sym}
use Rattle.states.proofs.Search.{holds_must}
use Rattle.semantics.specs.Conditions.{c71}
use Rattle.rules.proofs.weaken.rely_within.Goals as goal

pub returns : goal.returns
unfolding c71
returns c = c.lies_in.ensures ∙ sym (holds_must _)
