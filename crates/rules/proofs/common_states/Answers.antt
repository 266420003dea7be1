-- By cases on the number: a search of the code is the condition's.
use native.Mathlib.Omega.{arith}
use mathlib.Core.Path.{sym, ap, refl}
use borrow.Author.Tests.{ne_eqb}
use Rattle.states.specs.Search.{given}
use Rattle.semantics.specs.Conditions.{c31, c32, c33}
use Rattle.search.specs.Named.{naming}
use Rattle.rules.specs.Asking.{states_for}
use Rattle.rules.specs.Words.{word_relation}
use Rattle.rules.proofs.Naming.{other, plain, done, silent, found_as, into_same, chain_same}
use Rattle.rules.proofs.common_states.Goals as goal

pub returns-in_default : goal.returns-in_default
unfolding naming
returns-in_default c fits =
    sym (ap naming (silent _ _ (plain fits refl (other (ne_eqb _ 31 (omega arith)) (other (ne_eqb _ 32 (omega arith)) (other (ne_eqb _ 33 (omega arith)) done))))))

pub returns-in-31 : goal.returns-in-31
unfolding states_for given c31 word_relation c32 c33
returns-in-31 c fits =
    let p = c.set_at-p.ensures in
    rw c.in-31.is
    (found_as _ _ c.least_pair.ensures
    (into_same _ _ _ _ _ _ p p c.rows_of-r.ensures (c.all_into.ensures _)))

pub returns-in-32 : goal.returns-in-32
unfolding states_for given c31 word_relation c32 c33
returns-in-32 c fits =
    let q = c.rows_of-q.ensures in
    rw c.in-32.is (found_as _ _ c.least_chain.ensures
    (chain_same _ _ _ c.set_at-p.ensures c.rows_of-r.ensures q q))

pub returns-in-33 : goal.returns-in-33
unfolding states_for given c31 word_relation c32 c33
returns-in-33 c fits =
    let q = c.rows_of-q.ensures in
    rw c.in-33.is (found_as _ _ c.least_chain-in-33.ensures
    (chain_same _ _ _ c.set_at-p.ensures q c.rows_of-r.ensures q))
