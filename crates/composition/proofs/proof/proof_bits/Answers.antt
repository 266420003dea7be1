-- The tables, then the nodes.
use native.Mathlib.Omega.{arith}
use Rattle.composition.specs.Refinement.{proof_bits}
use Rattle.composition.proofs.proof.proof_bits.Goals as goal

pub returns : goal.returns
unfolding proof_bits
returns c = let first = c.form_bits.ensures in
    let second = c.form_bits-2.ensures in
    (omega (arith, c.root_at.ensures, first, second), omega (arith, c.root_at.ensures, first, second))
