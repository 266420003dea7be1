-- Each round adds the bits of one node; they are at most 27.
use Prim.Native.Nat.{◌≤◌}
use mathlib.Core.Path.{◌≡◌, ◌∙◌, ap}
use native.Mathlib.Omega.{arith}
use Rattle.writer.specs.Packing.{width_of}
use Rattle.derivation.specs.NodeTable.{node_in}
use Rattle.form.specs.Form.{parts_of}
use Rattle.canonical.proofs.Order.{held_none}
use Rattle.canonical.proofs.NodeFields.{width_most, width_more}
use Rattle.canonical.proofs.nodes.nodes_width.Goals.{After-node_width-width}
use Rattle.canonical.proofs.nodes.nodes_width.Goals as goal

-- The bits of the node of this round.
added : (c : After-node_width-width) → c.node_width-width.result ≡ width_of (parts_of (node_in c.args.nodes.now c.loop-i.i))
added c = c.node_width-width.ensures ∙ ap (λ x. width_of (parts_of x)) c.node_at.ensures

few : (c : After-node_width-width) → c.node_width-width.result ≤ 27
few c = rw (added c) (width_most _)

pub loop-i-init : goal.loop-i-init
unfolding width_of
loop-i-init c = (omega arith, rw (held_none parts_of c.args.nodes.now), omega arith)

pub overflow_add-width : goal.overflow_add-width
unfolding width_of
overflow_add-width c = omega (arith, few c, c.loop-i.invariant.2)

pub loop-i-preserved : goal.loop-i-preserved
unfolding width_of
loop-i-preserved c =
    let more = width_more c.args.nodes.now c.loop-i.i (omega arith) in
    (omega arith, omega (arith, c.loop-i.invariant.1, added c, more), omega (arith, few c, c.loop-i.invariant.2))
