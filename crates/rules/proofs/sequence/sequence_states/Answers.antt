-- By cases on the number.
use native.Mathlib.Omega.{arith}
use mathlib.Core.Path.{◌∙◌, sym, ap, refl}
use borrow.Author.Tests.{ne_eqb}
use Rattle.states.specs.Search.{given}
use Rattle.semantics.specs.Conditions.{c34, c36, c37, c60, c61}
use Rattle.search.specs.Named.{naming}
use Rattle.rules.specs.Asking.{states_for}
use Rattle.rules.specs.Words.{word_relation}
use Rattle.rules.proofs.Naming.{other, plain, done, before_silent, found_as, into_same, chain_same}
use Rattle.rules.proofs.sequence.sequence_states.Goals as goal

pub returns-in_default : goal.returns-in_default
unfolding c34 c36 c37
returns-in_default c fits =
    c.common_states.ensures fits
    ∙ sym (ap naming (before_silent _ _ _ (plain _ refl (plain _ refl (plain _ refl (plain _ refl (plain _ refl
    (other (ne_eqb _ 60 (omega arith)) (other (ne_eqb _ 61 (omega arith)) done)))))))))

pub returns-in-60 : goal.returns-in-60
unfolding states_for given c60 word_relation c61
returns-in-60 c fits =
    rw c.in-60.is
    (found_as _ _ c.least_pair.ensures
    (into_same _ _ _ _ _ _ c.set_at-p.ensures c.set_at.ensures c.rows_of-left_q.ensures
    (c.all_into.ensures _)))

pub returns-in-61 : goal.returns-in-61
unfolding states_for given c60 word_relation c61
returns-in-61 c fits =
    rw c.in-61.is
    (found_as _ _ c.least_chain.ensures
    (chain_same _ _ _ c.set_at-p.ensures c.rows_of-left_q.ensures c.rows_of.ensures
    c.rows_of-in-61.ensures))
