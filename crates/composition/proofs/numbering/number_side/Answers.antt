-- The weaken node's relations, then those of the form.
use Rattle.derivation.proofs.Buffers.{length_tabulate}
use Rattle.composition.specs.Refinement.{relations_held}
use Rattle.composition.proofs.Places.{side_numbered}
use Rattle.composition.proofs.numbering.number_side.Goals as goal

pub returns : goal.returns
unfolding relations_held
returns c seen k =
    let three = c.mention_side-node.ensures seen k in
    side_numbered seen _ _ _ _ _ _ _ _ _ three (c.mention_relations-count.ensures _ three.kept) (length_tabulate _ _)
