-- By cases of the rule: the fields of the node are one field.
use Rattle.canonical.proofs.NodeFields.{put_while, put_other}
use Rattle.canonical.proofs.nodes.write_node.Goals as goal

pub returns-then-node-eq-WHILE : goal.returns-then-node-eq-WHILE
returns-then-node-eq-WHILE c =
    rw (c.put.ensures, c.node_number-number.ensures) (put_while c.args.node _ _ c.if-node-eq-WHILE.true)

pub returns-else-node-eq-WHILE : goal.returns-else-node-eq-WHILE
returns-else-node-eq-WHILE c =
    rw (c.put-else-node-eq-WHILE.ensures, c.node_number-number.ensures) (put_other c.args.node _ _ c.if-node-eq-WHILE.false)
