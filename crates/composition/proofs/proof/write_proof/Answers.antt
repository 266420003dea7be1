-- The bytes of the file are cleared, and the tables and the nodes are put into them.
use Prim.Native.Nat.{ℕ, ◌*◌, ◌≤◌}
use mathlib.Core.Path.{◌∙◌, ap}
use native.Mathlib.Omega.{arith}
use lib.ListN.{length}
use Rattle.writer.specs.Packing.{bytes_for}
use Rattle.derivation.proofs.Buffers.{length_tabulate}
use Rattle.composition.specs.Refinement.{sets_held, relations_held, proof_bits, most_proof_bits}
use Rattle.composition.proofs.NewNodes.{nodes_width, proof_small, proof_written_by}
use Rattle.composition.proofs.proof.write_proof.Goals.{Start}
use Rattle.composition.proofs.proof.write_proof.Goals as goal

-- The file has room, and it is small.
abbrev bits : Start → ℕ
bits c = let a = c.args in proof_bits a.n a.m a.k a.a a.b

room : (c : Start) → (bits c ≤ 8 * length c.args.out.now) × (bits c ≤ most_proof_bits)
unfolding bytes_for
room c =
    let a = c.args in
    (omega (arith, c.requires.5, c.requires.6), proof_small a.n a.m a.k a.a a.b c.requires.1 c.requires.2 c.requires.3)

pub write_tables-requires : goal.write_tables-requires
unfolding proof_bits relations_held sets_held
write_tables-requires c =
    let same = c.out-1.given in
    let r = room (goal.at.write_tables-requires c).Start in
    (c.requires.0, c.requires.1, c.requires.2, c.requires.3, (omega (arith, r, same), omega (arith, r)))

pub write_all_nodes-requires : goal.write_all_nodes-requires
unfolding proof_bits relations_held sets_held
write_all_nodes-requires c =
    let same = c.out-2-1.given ∙ c.out-1.given in
    let r = room (goal.at.write_all_nodes-requires c).Start in
    let at = c.root_at.ensures.0 in
    (c.requires.4, (omega (arith, r, same, at), omega (arith, r, at)))

pub returns : goal.returns
unfolding proof_bits relations_held sets_held
returns c =
    let at = c.root_at.ensures.0 in
    let a = c.args in
    let bits = nodes_width a.k a.m a.a a.b in
    proof_written_by _ _ _ _ _ _ (length_tabulate _ _) (length_tabulate _ _) _ _ _ _ a.bytes _
    (c.requires.6 ∙ ap bytes_for (omega (arith, at, bits))) c.requires.5 at c.clear.ensures c.write_tables.ensures
    c.write_all_nodes.ensures
