-- Both words are masked to the n states.
use mathlib.Core.Path.{◌∙◌}
use Rattle.rules.proofs.Words.{same_masked}
use Rattle.rules.proofs.tables.same_set.Goals as goal

pub returns : goal.returns
returns c = let a = c.args in
    simp (c.meet.ensures, c.meet-2.ensures, c.below-states.ensures) at c.same.ensures
    ∙ same_masked a.n a.a a.b
