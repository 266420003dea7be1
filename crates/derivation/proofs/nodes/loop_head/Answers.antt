-- A while reads two more names; what is read after them is the node itself.
use mathlib.Core.Path.{sym, ◌∙◌}
use borrow.Author.Tests.{ne_eqb}
use Rattle.derivation.specs.Nodes.{loop_head}
use Rattle.derivation.proofs.Heads.{passed_on, from_K, from_W}
use Rattle.derivation.proofs.nodes.loop_head.Goals as goal

pub returns-then-rule-ne-WHILE : goal.returns-then-rule-ne-WHILE
unfolding loop_head
returns-then-rule-ne-WHILE c = rw (ne_eqb _ 5 c.if-rule-ne-WHILE.true)

pub returns-in_err-k : goal.returns-in_err-k
returns-in_err-k c =
    let a = c.args in
    passed_on _ _ c.from_residual.ensures.1
    ∙ sym (rw c.in_err-k.was at (from_K a.src.now a.tables.sets a.tables.relations a.rule a.names a.at c.if-rule-ne-WHILE.false _ c.name_at.ensures))

pub returns-in_err-w : goal.returns-in_err-w
returns-in_err-w c =
    let a = c.args in
    passed_on _ _ c.from_residual-in_err-w.ensures.1
    ∙ sym (rw c.in_err-w.was at (from_W a.src.now a.tables.sets a.tables.relations a.rule a.names a.at c.if-rule-ne-WHILE.false _ c.name_at.ensures _ _ c.in_ok-k.was _ c.name_at-2.ensures))

pub returns : goal.returns
returns c =
    let a = c.args in
    sym (rw c.in_ok-w.was at (from_W a.src.now a.tables.sets a.tables.relations a.rule a.names a.at c.if-rule-ne-WHILE.false _ c.name_at.ensures _ _ c.in_ok-k.was _ c.name_at-2.ensures))
