-- The root, then the first side, then the second, each where the one before ends.
use native.Mathlib.Omega.{arith}
use Rattle.composition.specs.Refinement.{form_bits, node_parts}
use Rattle.composition.proofs.NewNodes.{side_width, all_written}
use Rattle.composition.proofs.proof.write_all_nodes.Goals as goal

pub returns : goal.returns
unfolding node_parts form_bits
returns c =
    let room = c.requires.1 in
    all_written _ _ _ _ _ _ _ c.args.k.root _ _ _ c.new_node.ensures (omega (arith, room)) (omega (arith, room)) (side_width _ _ _ _ _)
    (omega (arith, c.form_bits.ensures.0)) c.write_node.ensures c.write_side.ensures
    c.write_side-2.ensures
