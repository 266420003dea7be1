-- At most 27 bits for each of at most 127 nodes.
use Rattle.composition.specs.Refinement.{form_bits}
use Rattle.composition.proofs.NewNodes.{form_few}
use Rattle.composition.proofs.proof.form_bits.Goals as goal

pub returns : goal.returns
unfolding form_bits
returns c = (c.nodes_width.ensures, rw c.nodes_width.ensures (form_few c.args.form))
