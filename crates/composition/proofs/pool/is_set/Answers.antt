-- Sets are the same exactly if their numbers are equal.
use mathlib.Core.Path.{◌∙◌, ap, fun_ext}
use Rattle.states.specs.Sets.{has}
use Rattle.semantics.specs.Conditions.{same_set}
use Rattle.composition.proofs.Comparing.{set_compared}
use Rattle.composition.proofs.pool.is_set.Goals as goal

pub returns : goal.returns
returns c = let a = c.args in
    c.same_set.ensures ∙ ap (λ p. same_set a.n p (has a.set)) (fun_ext c.set_at.ensures) ∙ set_compared _ _ _
