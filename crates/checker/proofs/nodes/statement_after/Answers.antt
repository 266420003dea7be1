-- By cases: a weaken or another rule.
use native.Mathlib.Numerals.{add-one}
use borrow.Author.Tests.{eq-eqb, ne_eqb}
use Rattle.checker.specs.Nodes.{statement_after}
use Rattle.checker.proofs.nodes.statement_after.Goals as goal

pub returns-then-node-eq-WEAKEN : goal.returns-then-node-eq-WEAKEN
unfolding statement_after
returns-then-node-eq-WEAKEN c = rw (← c.node_at-node.ensures, eq-eqb _ 6 c.if-node-eq-WEAKEN.true)

pub returns-else-node-eq-WEAKEN : goal.returns-else-node-eq-WEAKEN
unfolding statement_after
returns-else-node-eq-WEAKEN c = rw (← c.node_at-node.ensures, ne_eqb _ 6 c.if-node-eq-WEAKEN.false, add-one)
