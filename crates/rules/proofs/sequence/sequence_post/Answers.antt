-- From P, left Q and then right Q is in Q.
use mathlib.Core.Path.{◌∙◌}
use Rattle.semantics.specs.Conditions.{c61}
use Rattle.rules.proofs.Words.{all_through}
use Rattle.rules.proofs.sequence.sequence_post.Goals as goal

pub returns : goal.returns
unfolding c61
returns c =
    let a = c.args in
    c.chains_into.ensures ∙ all_through a.n a.work.now a.left.q _ _ _ _ c.set_at-p.ensures c.below.ensures
