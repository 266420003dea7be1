-- The two sets by their members.
use mathlib.Core.Path.{◌∙◌, sym}
use Rattle.states.proofs.Search.{holds_must}
use Rattle.semantics.specs.Conditions.{c34}
use Rattle.rules.proofs.Words.{same_cong}
use Rattle.rules.proofs.tables.same_pre.Goals as goal

pub returns : goal.returns
unfolding c34
returns c = c.same_set.ensures ∙ same_cong _ _ _ _ _ c.set_at.ensures c.set_at-2.ensures ∙ sym (holds_must _)
