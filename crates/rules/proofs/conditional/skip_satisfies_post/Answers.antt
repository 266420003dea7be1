-- The pairs (s,s) of the states of P where the test is false are in Q.
use mathlib.Core.Path.{◌∙◌, ap, fun_ext}
use mathlib.Core.Bool.{◌&&◌}
use Rattle.states.specs.Search.{must, holds}
use Rattle.states.specs.Sets.{has}
use Rattle.semantics.specs.Conditions.{in_set, c46}
use Rattle.rules.specs.Words.{word_relation}
use Rattle.rules.proofs.Searches.{in_set_and}
use Rattle.rules.proofs.conditional.skip_satisfies_post.Goals as goal

pub returns : goal.returns
unfolding c46
returns c = let a = c.args in
    let n = a.n in
    c.stays.ensures
    ∙ ap (λ p. holds (in_set n p (λ s. must (word_relation n a.work.now a.own.q s s))))
    (fun_ext (λ s. c.meet.ensures s ∙ ap (λ b. b && has a.falsity s) (c.set_at.ensures s)))
    ∙ ap holds (in_set_and n _ _ _)
