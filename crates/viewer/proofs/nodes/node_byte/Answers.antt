-- By cases of what reading the pair found, and of whether the pair has the node. Its table has the node's first bit (`node_bit`).
use Prim.Native.Nat.{ℕ, ◌<◌}
use mathlib.Core.List.{List}
use mathlib.Core.Path.{◌≡◌, sym, ◌∙◌, ap}
use native.Mathlib.Omega.{arith}
use lib.ListN.{length}
use Rattle.std.specs.Prelude.{Ok, Err}
use Rattle.semantics.specs.Derivations.{nodes}
use Rattle.derivation.specs.NodeTable.{node_in}
use Rattle.pair.specs.declared.PairFault.{PairFault}
use Rattle.pair.specs.declared.PairFault.TheVariants.{TooLong, At}
use Rattle.pair.specs.Reading.{read_pair, pair_file}
use Rattle.pair.proofs.Found.{FoundPair, found_long, found_fault, found_pair}
use Rattle.viewer.specs.View.{byte_of, first_bits_of, node_byte}
use Rattle.viewer.proofs.FirstBits.{bits_of, count_bits, node_bit, node_there, no_node}
use Rattle.viewer.proofs.nodes.node_byte.Goals.{In-Ok}
use Rattle.viewer.proofs.nodes.node_byte.Goals as goal

-- The pair that was found.
held : (c : In-Ok) → let a = c.args in FoundPair (read_pair a.handler.now a.proof.now) c.in-Ok.file
held c = found_pair _ _ (sym c.read_pair.ensures ∙ c.in-Ok.is)

-- Where the pair is not read, no node has a byte.
not_read : (hb pb : List ℕ) (node : ℕ) (fault : PairFault) → pair_file (read_pair hb pb) ≡ Err fault → length pb ≡ node_byte pb (first_bits_of hb pb) node
unfolding first_bits_of
not_read hb pb node TooLong is = rw (found_long _ is) (sym (no_node _ _ _ (omega arith)))
not_read hb pb node (At fault) is = rw (found_fault _ _ is) (sym (no_node _ _ _ (omega arith)))

pub returns : goal.returns
returns c =
    let a = c.args in
    let f = held (goal.at.returns c).In-Ok in
    let x = f.held in
    let under : a.node < nodes x.derivation = omega (arith, c.if-node-file.false, ap (λ y. y.read.proof.nodes) f.kept) in
    let few = count_bits _ _ x f.read in
    c.byte_of.ensures ∙ ap (λ n. byte_of a.proof.now n.bit) (c.node_at-found.ensures ∙ ap (λ y. node_in y.nodes a.node) f.kept)
    ∙ ap (byte_of a.proof.now) (node_bit _ _ x f.read a.node under)
    ∙ rw (bits_of _ _ x f.read) (sym (node_there a.proof.now _ a.node (omega arith)))

pub returns-then-node-file : goal.returns-then-node-file
unfolding first_bits_of
returns-then-node-file c =
    let a = c.args in
    let f = held (goal.at.returns-then-node-file c).In-Ok in
    let few = count_bits _ _ f.held f.read in
    rw (bits_of _ _ f.held f.read) (sym (no_node a.proof.now _ a.node (omega (arith, c.if-node-file.true, ap (λ y. y.read.proof.nodes) f.kept))))

pub returns-in_default : goal.returns-in_default
returns-in_default c = not_read _ _ _ _ (sym c.read_pair.ensures ∙ c.in_default.is)
