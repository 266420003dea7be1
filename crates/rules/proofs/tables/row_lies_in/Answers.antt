-- One row lies in the other, and this is the same over all states that a set can hold as over the n.
use mathlib.Core.Path.{◌∙◌}
use Rattle.semantics.specs.Conditions.{set_lies_in}
use Rattle.rules.proofs.Searches.{small_all}
use Rattle.rules.proofs.Words.{relation_small}
use Rattle.rules.proofs.tables.row_lies_in.Goals as goal

pub returns : goal.returns
unfolding set_lies_in
returns c = let a = c.args in
    simp (c.row_at.ensures, c.row_at-2.ensures) at c.included.ensures
    ∙ small_all a.n _ _ (relation_small a.n a.work.now a.a a.s)
