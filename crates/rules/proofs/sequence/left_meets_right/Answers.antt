-- Left Q leads from P into right P.
use mathlib.Core.Path.{◌∙◌}
use Rattle.semantics.specs.Conditions.{c60}
use Rattle.rules.proofs.Words.{leads_cong}
use Rattle.rules.proofs.sequence.left_meets_right.Goals as goal

pub returns : goal.returns
unfolding c60
returns c = c.leads_into.ensures ∙ leads_cong _ _ _ _ _ _ c.set_at.ensures c.set_at-2.ensures
