-- What writing a node and the nodes below it leaves.
use Prim.Native.Nat.{ℕ, ◌+◌, ◌*◌, ◌^◌, ◌≤◌, ◌<◌, min}
use native.Mathlib.Omega.{arith}
use mathlib.Core.List.{List, ◌∷◌, ◌++◌, map, append_assoc}
use mathlib.Core.Path.{◌≡◌, sym, ◌∙◌, ap}
use lib.ListN.{length, take, drop, replicate, length-take}
use Rattle.writer.specs.Writing.{cleared}
use Rattle.writer.specs.Packing.{Part, part, width_of, put_parts, put_all, bytes_for, packed}
use Rattle.writer.proofs.Packed.{width_append, parts_append, length_parts, all_fits, length_packed, packed_front}
use Rattle.writer.proofs.Copied.{cleared_within}
use Rattle.states.specs.Sets.{capacity}
use Rattle.derivation.specs.Nodes.{most_nodes}
use Rattle.derivation.specs.declared.Node.{Node}
use Rattle.derivation.specs.Tables.{most_tables}
use Rattle.form.specs.Members.{node_by}
use Rattle.form.specs.Form.{parts_of}
use Rattle.canonical.specs.Nodes.{name_in, held_in}
use Rattle.canonical.specs.Refinement.{Room}
use Rattle.form.proofs.FileBack.{width_map}
use Rattle.canonical.proofs.Bounds.{few_bits}
use Rattle.canonical.proofs.Copying.{nodes_most}
use Rattle.canonical.proofs.NodeFields.{other_width, held_width}
use Rattle.composition.specs.declared.pool.Three.{Three}
use Rattle.composition.specs.declared.forms.Form.{Form}
use Rattle.composition.specs.declared.numbering.SetNumbers.{SetNumbers}
use Rattle.composition.specs.declared.numbering.RelationNumbers.{RelationNumbers}
use Rattle.joint.specs.Composing.{at_front}
use Rattle.composition.specs.Refinement.{new_node, side_parts, form_bits, node_parts, proof_parts, proof_bits, most_proof_bits}

-- Fields written one after the other, where there is room for both.
pub two_written : (out o₁ o₂ : List ℕ) (at next : ℕ) (ps qs : List Part) → Room out at (width_of ps + width_of qs) → next ≡ at + width_of ps
    → o₁ ≡ put_all out at ps → o₂ ≡ put_all o₁ next qs → o₂ ≡ put_parts out at (ps ++ qs)
two_written out o₁ o₂ at next ps qs room is e₁ e₂ =
    let first : o₁ ≡ put_parts out at ps = e₁ ∙ all_fits out at ps (omega arith) (omega arith) in
    let long : length o₁ ≡ length out = ap length first ∙ length_parts out at ps in
    e₂ ∙ all_fits o₁ next qs (omega arith) (omega arith) ∙ (λ i. put_parts (first i) (is i) qs) ∙ sym (parts_append out at ps qs)

-- A new node is no while.
pub new_width : (rule : ℕ) (m : Three) → (rule ≡ 5 → ⊥) → width_of (parts_of (new_node rule m)) ≡ 19
new_width rule m not = other_width (new_node rule m) not

module _ (node : Three) (sets relations nodes : List ℕ) (count : ℕ) where
  pub side_width : width_of (side_parts node sets relations nodes count) ≡ 19 + width_of (held_in parts_of (take (min count most_nodes) nodes))
  unfolding side_parts
  side_width =
      omega (
        arith,
        width_append (parts_of (new_node 6 node)) (held_in (λ x. parts_of (node_by (name_in sets) (name_in relations) x)) (take (min count most_nodes) nodes)),
        new_width 6 node (λ e. omega arith),
        held_width sets relations (take (min count most_nodes) nodes),
      )

  pub side_written : (out o₁ o₂ : List ℕ) (at : ℕ) (x : Node) → x ≡ new_node 6 node
      → Room out at (19 + width_of (held_in parts_of (take (min count most_nodes) nodes))) → o₁ ≡ put_all out at (parts_of x)
      → o₂ ≡ put_all o₁ (at + 19) (held_in (λ x. parts_of (node_by (name_in sets) (name_in relations) x)) (take (min count most_nodes) nodes))
      → o₂ ≡ put_parts out at (side_parts node sets relations nodes count)
  unfolding side_parts
  side_written out o₁ o₂ at x is room e₁ e₂ =
      let w = new_width 6 node (λ e. omega arith) in
      let h = held_width sets relations (take (min count most_nodes) nodes) in
      two_written out o₁ o₂ at (at + 19) (parts_of (new_node 6 node)) _ (omega (arith, w, h), omega (arith, w, h)) (omega (arith, w))
      (e₁ ∙ ap (λ n. put_all out at (parts_of n)) is) e₂

-- The root, then both sides.
pub all_written : (out o₁ o₂ o₃ : List ℕ) (at second w : ℕ) (root : Three) (left right : List Part) (x : Node) → x ≡ new_node 3 root
    → at + 19 ≤ 8 * length out → at + 19 < 2 ^ 64 → width_of left ≡ w → second ≡ at + 19 + w
    → o₁ ≡ put_all out at (parts_of x) → o₂ ≡ put_parts o₁ (at + 19) left → o₃ ≡ put_parts o₂ second right
    → o₃ ≡ put_parts out at (parts_of (new_node 3 root) ++ (left ++ right))
all_written out o₁ o₂ o₃ at second w root left right x is inside fits width is-second e₁ e₂ e₃ =
    let own = new_width 3 root (λ e. omega arith) in
    let first : o₁ ≡ put_parts out at (parts_of (new_node 3 root)) =
    e₁ ∙ ap (λ n. put_all out at (parts_of n)) is ∙ all_fits out at _ (omega (arith, own)) (omega (arith, own))
    in
    let after : at + 19 ≡ at + width_of (parts_of (new_node 3 root)) = omega (arith, own) in
    let next : second ≡ at + 19 + width_of left = is-second ∙ ap (λ v. at + 19 + v) (sym width) in
    e₃ ∙ (λ i. put_parts (e₂ i) (next i) right) ∙ sym (parts_append o₁ (at + 19) left right)
    ∙ (λ i. put_parts (first i) (after i) (left ++ right)) ∙ sym (parts_append out at (parts_of (new_node 3 root)) (left ++ right))

-- The nodes of a form have at most 27 bits each.
pub form_few : (f : Form) → form_bits f ≤ 27 * most_nodes
unfolding form_bits
form_few f = omega (arith, nodes_most (take (min f.head.nodes most_nodes) f.nodes), length-take (min f.head.nodes most_nodes) f.nodes)

pub nodes_width : (k : RelationNumbers) (m : SetNumbers) (a b : Form) → width_of (node_parts k m a b) ≡ 57 + form_bits a + form_bits b
unfolding node_parts form_bits
nodes_width k m a b =
    let left = side_parts k.left.node m.first k.left.names a.nodes a.head.nodes in
    let right = side_parts k.right.node m.second k.right.names b.nodes b.head.nodes in
    omega (
      arith,
      width_append (parts_of (new_node 3 k.root)) (left ++ right),
      width_append left right,
      new_width 3 k.root (λ e. omega arith),
      side_width k.left.node m.first k.left.names a.nodes a.head.nodes,
      side_width k.right.node m.second k.right.names b.nodes b.head.nodes,
    )

pub proof_small : (n : ℕ) (m : SetNumbers) (k : RelationNumbers) (a b : Form) → n ≤ capacity → m.count ≤ most_tables → k.right.count ≤ most_tables
    → proof_bits n m k a b ≤ most_proof_bits
unfolding proof_bits
proof_small n m k a b few sets relations = omega (arith, few_bits n m.count k.right.count few sets relations, form_few a, form_few b)

-- The counts and the tables take all bits before the nodes.
tables_width : (n : ℕ) (S T : List ℕ) → width_of (part 5 (length S) ∷ part 5 (length T) ∷ (map (part n) S ++ map (part (n * n)) T)) ≡ 10 + n * length S + n * n * length T
unfolding width_of
tables_width n S T = omega (arith, width_append (map (part n) S) (map (part (n * n)) T), width_map n S, width_map (n * n) T)

-- Cleared bytes into which the tables and then the nodes are put are the file.
module _ (n : ℕ) (S T : List ℕ) (nodes : List Part) where
  abbrev tables : List Part
  tables = part 5 (length S) ∷ part 5 (length T) ∷ (map (part n) S ++ map (part (n * n)) T)

  abbrev whole : List Part
  whole = proof_parts n S T nodes

  whole_is : whole ≡ tables ++ nodes
  unfolding proof_parts
  whole_is = ap (λ l. part 5 (length S) ∷ part 5 (length T) ∷ l) (sym (append_assoc (map (part n) S) (map (part (n * n)) T) nodes))

  proof_written : (out o₁ o₂ o₃ : List ℕ) (bytes at : ℕ) → bytes ≡ bytes_for (at + width_of nodes) → bytes ≤ length out
      → at ≡ 10 + n * length S + n * n * length T → o₁ ≡ cleared out bytes → o₂ ≡ put_parts o₁ 0 tables → o₃ ≡ put_parts o₂ at nodes
      → o₃ ≡ at_front (packed whole) out
  proof_written out o₁ o₂ o₃ bytes at is-bytes room is_at e₁ e₂ e₃ =
      let before : at ≡ 0 + width_of tables = omega (arith, tables_width n S T) in
      let width : width_of whole ≡ at + width_of nodes = omega (arith, ap width_of whole_is, width_append tables nodes) in
      let long : bytes ≡ bytes_for (width_of whole) = is-bytes ∙ ap bytes_for (sym width) in
      let put : o₃ ≡ put_parts (replicate bytes 0 ++ drop bytes out) 0 whole =
      e₃ ∙ (λ i. put_parts ((e₂ ∙ ap (λ o. put_parts o 0 tables) (e₁ ∙ cleared_within out bytes room)) i) (before i) nodes)
      ∙ sym (parts_append _ 0 tables nodes) ∙ ap (put_parts (replicate bytes 0 ++ drop bytes out) 0) (sym whole_is)
      in
      put ∙ ap (λ k. put_parts (replicate k 0 ++ drop bytes out) 0 whole) long ∙ packed_front whole (drop bytes out)
      ∙ ap (λ k. packed whole ++ drop k out) (long ∙ sym (length_packed whole))

  -- The same with the counts as the code has them.
  pub proof_written_by : (p q : ℕ) → length S ≡ p → length T ≡ q → (out o₁ o₂ o₃ : List ℕ) (bytes at : ℕ) → bytes ≡ bytes_for (at + width_of nodes)
      → bytes ≤ length out → at ≡ 10 + n * p + n * n * q → o₁ ≡ cleared out bytes
      → o₂ ≡ put_parts o₁ 0 (part 5 p ∷ part 5 q ∷ (map (part n) S ++ map (part (n * n)) T)) → o₃ ≡ put_parts o₂ at nodes
      → o₃ ≡ at_front (packed whole) out
  proof_written_by p q is-p is-q out o₁ o₂ o₃ bytes at is-bytes room is_at e₁ e₂ e₃ =
      proof_written out o₁ o₂ o₃ bytes at is-bytes room (is_at ∙ (λ i. 10 + n * sym is-p i + n * n * sym is-q i)) e₁
      (e₂ ∙ (λ i. put_parts o₁ 0 (part 5 (sym is-p i) ∷ part 5 (sym is-q i) ∷ (map (part n) S ++ map (part (n * n)) T)))) e₃

-- The length of the proof file in bytes.
pub proof_length : (n : ℕ) (S T : List ℕ) (m : SetNumbers) (k : RelationNumbers) (f g : Form) → length S ≡ m.count → length T ≡ k.right.count
    → length (packed (proof_parts n S T (node_parts k m f g))) ≡ bytes_for (proof_bits n m k f g)
unfolding proof_bits
proof_length n S T m k f g is-p is-q =
    let nodes = node_parts k m f g in
    let counts : 10 + n * length S + n * n * length T ≡ 10 + n * m.count + n * n * k.right.count = (λ i. 10 + n * is-p i + n * n * is-q i) in
    length_packed (proof_parts n S T nodes)
    ∙ ap bytes_for (omega (arith, ap width_of (whole_is n S T nodes), width_append (tables n S T nodes) nodes, tables_width n S T, nodes_width k m f g, counts))
