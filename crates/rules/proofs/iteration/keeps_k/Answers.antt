-- R leads from P met with K into K.
use mathlib.Core.Path.{◌∙◌, ap, ap₂}
use mathlib.Core.Bool.{◌&&◌}
use Rattle.states.specs.Search.{holds}
use Rattle.semantics.specs.Conditions.{c53}
use Rattle.rules.proofs.Searches.{in_set_and}
use Rattle.rules.proofs.Words.{leads_cong}
use Rattle.rules.proofs.iteration.keeps_k.Goals as goal

pub returns : goal.returns
unfolding c53
returns c = let k = c.set_at-set.ensures in
    c.leads_into.ensures
    ∙ leads_cong _ _ _ _ _ _ (λ s. c.meet.ensures s ∙ ap₂ ◌&&◌ (c.set_at.ensures s) (k s)) k
    ∙ ap holds (in_set_and _ _ _ _)
