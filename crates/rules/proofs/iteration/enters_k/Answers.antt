-- P met with the states where the test is true lies in K, and this is the same over all states that a set can hold as over the n.
use mathlib.Core.Path.{◌∙◌, ap}
use Rattle.states.specs.Search.{holds}
use Rattle.states.specs.Sets.{has}
use Rattle.states.proofs.Search.{and_left}
use Rattle.semantics.specs.Conditions.{c52}
use Rattle.rules.specs.Words.{word_set}
use Rattle.rules.proofs.Searches.{small_within, in_set_and}
use Rattle.rules.proofs.Words.{set_small}
use Rattle.rules.proofs.iteration.enters_k.Goals as goal

pub returns : goal.returns
unfolding c52
returns c = let a = c.args in
    let p = word_set a.n a.work.now a.own.p in
    simp (c.meet.ensures, c.set_at.ensures, c.set_at-2.ensures) at c.included.ensures
    ∙ small_within a.n _ _ (λ s h. set_small a.n a.work.now a.own.p s (and_left (p s) _ h))
    ∙ ap holds (in_set_and a.n p (has a.truth) _)
