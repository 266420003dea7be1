-- The code's n is the machine's, and the sets are the states where the test is true and false.
use mathlib.Core.Path.{◌∙◌, sym, ap, fun_ext}
use Rattle.handler.specs.Terms.{expr_in}
use Rattle.semantics.specs.Conditions.{in_round}
use Rattle.semantics.specs.Checking.{body_tables}
use Rattle.rules.specs.Words.{word_set, word_relation, word_spec}
use Rattle.rules.specs.Asking.{asked_all}
use Rattle.rules.proofs.Asking.{then_asked, then_held}
use Rattle.rules.proofs.Movement.{read_once_50}
use Rattle.rules.proofs.iteration.while_fault.Goals as goal

pub returns : goal.returns
returns c =
    let a = c.args in
    let test = c.truths_at-test.ensures in
    let n = c.states_in-n.result in
    let asked = in_round (word_spec n a.work.now a.own) (word_set n a.work.now a.k) (word_relation n a.work.now a.w) in
    let tables = body_tables n asked (word_spec n a.work.now a.child) in
    let once = c.read_once.ensures ∙ read_once_50 _ _ _ c.moved.ensures (expr_in a.exprs.now a.expr) in
    rw (c.states_in-n.ensures, fun_ext test.holding, fun_ext test.failing) at
    (then_asked 56 _
    (then_held 55 _
    (then_held 54 _
    (then_held 53 _
    (then_held 52 _
    (then_held 57 _
    (then_held 51 _
    (then_held 50 _
    (ap (λ found. asked_all found tables) (sym c.in_ok-common.ensures) ∙ sym c.in_ok-while_tables.ensures)
    c.in_ok-require.ensures once)
    c.in_ok-require-2.ensures c.order_of-order.ensures.apart)
    c.in_ok-require-3.ensures c.order_of-order.ensures.transitive)
    c.in_ok-require-4.ensures c.enters_k.ensures)
    c.in_ok-require-5.ensures c.keeps_k.ensures)
    c.in_ok-require-6.ensures c.stays_false.ensures)
    c.in_ok-require-7.ensures c.rely_descends.ensures)
    c.require-8.ensures c.exit_satisfies_post.ensures)
