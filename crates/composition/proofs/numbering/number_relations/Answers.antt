-- The root's relations, then those of both sides.
use Rattle.derivation.proofs.Buffers.{length_tabulate}
use Rattle.composition.specs.Refinement.{relations_held}
use Rattle.composition.proofs.Places.{relations_numbered}
use Rattle.composition.proofs.numbering.number_relations.Goals as goal

pub returns : goal.returns
unfolding relations_held
returns c =
    let three = c.mention_root-root.ensures in
    let a = c.number_side-left.ensures _ three.kept in
    relations_numbered _ _ _ _ _ _ _ _ _ _ _ _ _ _ _ _ _ three a (c.number_side-right.ensures _ a.kept) (length_tabulate _ _) (length_tabulate _ _)
