-- The pairs (s,s) with s in P are in Q.
use mathlib.Core.Path.{◌∙◌, ap, fun_ext}
use Rattle.states.specs.Search.{must, holds}
use Rattle.semantics.specs.Conditions.{in_set, c35}
use Rattle.rules.specs.Words.{word_relation}
use Rattle.rules.proofs.skip.reflexive.Goals as goal

pub returns : goal.returns
unfolding c35
returns c = let a = c.args in
    c.stays.ensures
    ∙ ap (λ p. holds (in_set a.n p (λ s. must (word_relation a.n a.work.now a.own.q s s)))) (fun_ext c.set_at.ensures)
