-- By cases on the number; the code's n is the machine's, and the rows say where a store leads.
use native.Mathlib.Omega.{arith}
use mathlib.Core.Path.{◌∙◌, sym, ap, refl}
use lib.Dec.{eqb}
use borrow.Author.Tests.{ne_eqb}
use Rattle.states.specs.Search.{given}
use Rattle.semantics.specs.Conditions.{c41}
use Rattle.handler.specs.Header.{machine_in}
use Rattle.handler.specs.Terms.{expr_in}
use Rattle.search.specs.Named.{naming}
use Rattle.rules.specs.Asking.{states_for}
use Rattle.rules.specs.Words.{word_relation, word_spec}
use Rattle.search.proofs.Breaches.{eqb_turned}
use Rattle.rules.proofs.Stores.{store_in_post_42, store_in_guarantee_43}
use Rattle.rules.proofs.Naming.{other, done, reading_silent, found_as, within_same, or_same}
use Rattle.rules.proofs.assignment.assignment_states.Goals as goal

pub returns-in_default : goal.returns-in_default
unfolding c41
returns-in_default c fits =
    rw c.states_in-n.ensures at (c.common_states.ensures fits)
    ∙ sym (ap naming (reading_silent _ _ 41 _ _ _ _ (other refl (other refl (other refl done))) (other (ne_eqb _ 42 (omega arith)) (other (ne_eqb _ 43 (omega arith)) done))))

pub returns-in-42 : goal.returns-in-42
unfolding states_for given word_relation
returns-in-42 c fits =
    let a = c.args in
    let n = c.states_in-n.ensures in
    rw c.in-42.is
    (found_as _ _ (rw n at c.least_pair.ensures)
    (within_same _ _ _ (rw n at c.set_at-p.ensures) refl c.rows_of.ensures
    ∙ store_in_post_42 a.head a.v (expr_in a.exprs.now a.expr) _ c.successors-after.ensures
    (word_spec (machine_in a.head).states a.work.now a.own)))

pub returns-in-43 : goal.returns-in-43
unfolding states_for given word_relation
returns-in-43 c fits =
    let a = c.args in
    let n = c.states_in-n.ensures in
    rw c.in-43.is
    (found_as _ _ (rw n at c.least_pair-in-43.ensures)
    (or_same _ _ _ _ (λ s t. eqb t s) eqb_turned (rw n at c.set_at-p.ensures) refl c.rows_of-in-43.ensures
    (rw n at c.with_same.ensures)
    ∙ store_in_guarantee_43 a.head a.v (expr_in a.exprs.now a.expr) _ c.successors-after.ensures
    (word_spec (machine_in a.head).states a.work.now a.own)))
