-- R leads from the states of P where the test is false to states where it is false.
use mathlib.Core.Path.{◌∙◌, ap, refl}
use mathlib.Core.Bool.{◌&&◌}
use Rattle.states.specs.Search.{holds}
use Rattle.states.specs.Sets.{has}
use Rattle.semantics.specs.Conditions.{c54}
use Rattle.rules.proofs.Searches.{in_set_and}
use Rattle.rules.proofs.Words.{leads_cong}
use Rattle.rules.proofs.iteration.stays_false.Goals as goal

pub returns : goal.returns
unfolding c54
returns c = let falsity = c.args.falsity in
    c.leads_into.ensures
    ∙ leads_cong _ _ _ falsity _ _ (λ s. c.meet.ensures s ∙ ap (λ b. b && has falsity s) (c.set_at.ensures s)) (λ s. refl)
    ∙ ap holds (in_set_and _ _ _ _)
