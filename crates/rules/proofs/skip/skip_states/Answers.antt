-- By cases on the number.
use mathlib.Core.Path.{◌∙◌, sym, ap}
use borrow.Author.Tests.{ne_eqb}
use Rattle.states.specs.Search.{given}
use Rattle.semantics.specs.Conditions.{c35}
use Rattle.search.specs.Named.{naming}
use Rattle.rules.specs.Asking.{states_for}
use Rattle.rules.specs.Words.{word_relation}
use Rattle.rules.proofs.Naming.{other, done, before_silent, found_as, stay_same}
use Rattle.rules.proofs.skip.skip_states.Goals as goal

pub returns-else-number-eq35 : goal.returns-else-number-eq35
returns-else-number-eq35 c fits =
    c.common_states.ensures fits ∙ sym (ap naming (before_silent _ _ _ (other (ne_eqb _ 35 c.if-number-eq35.false) done)))

pub returns-then-number-eq35 : goal.returns-then-number-eq35
unfolding states_for given c35 word_relation
returns-then-number-eq35 c fits =
    rw c.if-number-eq35.true
    (found_as _ _ c.least_state.ensures
    (stay_same _ _ _ _ c.set_at.ensures c.diagonal.ensures c.rows_of.ensures))
