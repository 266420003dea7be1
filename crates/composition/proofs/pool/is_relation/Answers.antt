-- Relations are the same exactly if their numbers are equal.
use mathlib.Core.Bool.{beq}
use mathlib.Core.Path.{◌∙◌, ap}
use Rattle.states.specs.Search.{all}
use Rattle.states.specs.Relations.{rel}
use Rattle.rules.specs.Words.{word_relation}
use Rattle.composition.proofs.Comparing.{relation_compared}
use Rattle.composition.proofs.pool.is_relation.Goals as goal

pub returns : goal.returns
unfolding word_relation
returns c = let a = c.args in
    c.same_members.ensures
    ∙ ap (λ w. all a.n (λ s. all a.n (λ t. beq (rel a.n w s t) (rel a.n a.rows.now s t)))) c.rows_of.ensures ∙ relation_compared _ _ _
