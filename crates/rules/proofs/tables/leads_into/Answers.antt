-- The ends lie in the other set, and this is the same over all states that a set can hold as over the n.
use mathlib.Core.Path.{◌∙◌}
use Rattle.states.specs.Sets.{has}
use Rattle.rules.specs.Words.{word_relation}
use Rattle.rules.proofs.Searches.{small_all, ends_within}
use Rattle.rules.proofs.Words.{ends_small}
use Rattle.rules.proofs.tables.leads_into.Goals as goal

pub returns : goal.returns
unfolding word_relation
returns c = let a = c.args in
    simp (c.image.ensures, c.rows_of.ensures) at c.included.ensures
    ∙ small_all a.n _ (has a.into) (ends_small a.n (has a.from) _) ∙ ends_within a.n _ _ _
