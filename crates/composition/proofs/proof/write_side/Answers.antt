-- The weaken node, then the nodes of the form.
use mathlib.Core.Path.{◌≡◌, sym}
use borrow.Author.Rules.{rules}
use lib.ListN.{length}
use Rattle.derivation.specs.Nodes.{most_nodes}
use Rattle.composition.specs.Refinement.{form_bits}
use Rattle.composition.proofs.NewNodes.{side_written}
use Rattle.composition.proofs.proof.write_side.Goals.{Start}
use Rattle.composition.proofs.proof.write_side.Goals as goal

full : (c : Start) → length c.args.form.nodes ≡ most_nodes
full c = search rules

pub slice_bounds-write_nodes-end : goal.slice_bounds-write_nodes-end
unfolding form_bits
slice_bounds-write_nodes-end c = sym (full (goal.at.slice_bounds-write_nodes-end c).Start)

pub returns : goal.returns
unfolding form_bits
returns c =
    side_written _ _ _ _ _ _ _ _ _ _ c.new_node.ensures c.requires.1 c.write_node.ensures c.write_nodes.ensures
