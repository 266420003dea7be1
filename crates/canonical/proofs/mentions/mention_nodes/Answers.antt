-- After each round both buffers have the mentions of the first i nodes.
use native.Mathlib.Omega.{arith}
use borrow.Author.Rules.{rules}
use Rattle.form.specs.Mentions.{sets_of, relations_of}
use Rattle.canonical.proofs.Order.{so_far_none, so_far_more}
use Rattle.canonical.proofs.mentions.mention_nodes.Goals as goal

pub loop-i-init : goal.loop-i-init
loop-i-init c = (omega arith, so_far_none _ _ _ _ (search rules), so_far_none _ _ _ _ (search rules))

pub loop-i-preserved : goal.loop-i-preserved
loop-i-preserved c =
    let node = c.node_at-node.ensures in
    let l = c.loop-i in (
      omega arith,
      so_far_more sets_of _ _ _ l.i _ _ _ _ (omega arith) l.invariant.1 (rw (← node) c.mention_sets-set_count.ensures) (search rules),
      so_far_more relations_of _ _ _ l.i _ _ _ _ (omega arith) l.invariant.2 (rw (← node) c.mention_relations-relation_count.ensures) (search rules),
    )
