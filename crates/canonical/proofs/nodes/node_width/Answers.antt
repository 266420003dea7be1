-- By cases of the rule.
use mathlib.Core.Path.{sym}
use Rattle.canonical.proofs.NodeFields.{while_width, other_width}
use Rattle.canonical.proofs.nodes.node_width.Goals as goal

pub returns-then-node-eq-WHILE : goal.returns-then-node-eq-WHILE
returns-then-node-eq-WHILE c = sym (while_width _ c.if-node-eq-WHILE.true)

pub returns-else-node-eq-WHILE : goal.returns-else-node-eq-WHILE
returns-else-node-eq-WHILE c = sym (other_width _ c.if-node-eq-WHILE.false)
