-- The rows say where a store leads, so the code's conditions on them are 42 and 43; the code's n is the machine's.
use Rattle.std.proofs.Common.{rules}
use mathlib.Core.Path.{◌∙◌, sym, ap}
use Rattle.states.specs.Search.{holds}
use Rattle.semantics.specs.Conditions.{c41}
use Rattle.handler.specs.Header.{machine_in}
use Rattle.handler.specs.Terms.{expr_in}
use Rattle.rules.specs.Asking.{asked}
use Rattle.rules.specs.Words.{word_spec}
use Rattle.rules.proofs.Asking.{then_asked, then_held}
use Rattle.rules.proofs.Stores.{store_in_post_42, store_in_guarantee_43}
use Rattle.rules.proofs.assignment.assignment_fault.Goals as goal

pub returns-in_err-require : goal.returns-in_err-require
unfolding asked c41
returns-in_err-require c =
    let a = c.args in
    let e = expr_in a.exprs.now a.expr in
    let own = word_spec (machine_in a.head).states a.work.now a.own in
    let rows = c.successors-after.ensures in
    rw (sym (store_in_post_42 a.head a.v e _ rows own)) (search rules)

pub returns : goal.returns
unfolding c41
returns c =
    let a = c.args in
    let n = c.states_in-n.ensures in
    let e = expr_in a.exprs.now a.expr in
    let own = word_spec (machine_in a.head).states a.work.now a.own in
    let rows = c.successors-after.ensures in
    then_asked 43 _
    (then_held 42 _ (sym c.in_ok-common_reading.ensures)
    c.in_ok-require.ensures (rw n at c.store_in_post.ensures ∙ ap holds (store_in_post_42 a.head a.v e _ rows own)))
    c.require-2.ensures (rw n at c.store_in_guarantee.ensures ∙ ap holds (store_in_guarantee_43 a.head a.v e _ rows own))
