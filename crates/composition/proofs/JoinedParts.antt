-- The fields of the proof file of the joined derivation: the tables, the new nodes, and the nodes of both forms under new names. New names do not
-- change how many bits the nodes have.
use Prim.Native.Nat.{ℕ, suc, max, ◌+◌, ◌*◌, ◌≤◌, min}
use mathlib.Core.List.{List, ◌∷◌, ◌++◌, map}
use mathlib.Core.Path.{◌≡◌, refl, sym, ◌∙◌, ap}
use native.Mathlib.Omega.{arith}
use lib.ListN.{length, take}
use Rattle.writer.specs.Packing.{part, width_of}
use Rattle.semantics.specs.Derivations.{Derivation, Spec, nodes, levels}
use Rattle.derivation.specs.Nodes.{most_nodes}
use Rattle.derivation.specs.declared.Node.{Node}
use Rattle.derivation.specs.Tables.{most_tables}
use Rattle.derivation.specs.NodeTable.{node_bits, node_record, node_table}
use Rattle.form.specs.Members.{rename}
use Rattle.form.specs.Mentions.{root_node, in_order}
use Rattle.form.specs.Form.{sets_in, relations_in, numbered, parts_of, file_parts}
use Rattle.form.proofs.Renaming.{nodes_rename, node_bits_rename, parts_renamed}
use Rattle.form.proofs.Numbered.{numbered_known}
use Rattle.form.proofs.NodesBack.{width_nodes}
use Rattle.canonical.specs.Nodes.{name_in, held_in}
use Rattle.canonical.proofs.Numbered.{nodes_held}
use Rattle.composition.specs.declared.forms.Form.{Form}
use Rattle.composition.specs.declared.numbering.SetNumbers.{SetNumbers}
use Rattle.composition.specs.declared.numbering.RelationNumbers.{RelationNumbers}
use Rattle.composition.specs.declared.pool.Three.{Three}
use Rattle.joint.specs.Joining.{joined}
use Rattle.composition.specs.Refinement.{new_node, side_parts}
use Rattle.composition.proofs.JoinedNames.{FewTables, ResultSets, ResultRelations, numbered_joined}

-- A form whose table holds the nodes of x under their numbers.
pub record NodesHeld (x : Derivation) (f : Form) : Type 0 where
  pub few_tables : FewTables x
  pub nodes_most : nodes x ≤ most_nodes
  pub node_count : f.head.nodes ≡ nodes x
  pub table_is : f.nodes ≡ node_table f.head.root (numbered x)

module _ (x : Derivation) (f : Form) (is : NodesHeld x f) where
  held_nodes : {A : Type 0} (own : Node → List A) → ((i bit : ℕ) (d : Derivation) → own (node_record i bit d) ≡ own (root_node d))
      → held_in own (take (min f.head.nodes most_nodes) f.nodes) ≡ in_order own (numbered x)
  unfolding numbered
  held_nodes own alike =
      let same : nodes (numbered x) ≡ nodes x = nodes_rename _ _ x in
      let count : min f.head.nodes most_nodes ≡ nodes (numbered x) = omega (arith, is.node_count, is.nodes_most, same) in
      rw (count, is.table_is)
      (nodes_held (length (sets_in x)) (length (relations_in x)) is.few_tables.sets_most is.few_tables.relations_most own alike
      f.head.root (numbered x) (numbered_known x) (omega (arith, is.nodes_most, same)))

  -- The fields of a side.
  side_parts_lem : (node : Three) (sets relations : List ℕ) → side_parts node sets relations f.nodes f.head.nodes
      ≡ parts_of (new_node 6 node) ++ in_order parts_of (rename (name_in sets) (name_in relations) (numbered x))
  unfolding side_parts parts_of
  side_parts_lem node sets relations =
      ap (λ l. parts_of (new_node 6 node) ++ l) (held_nodes _ (λ i bit d. refl) ∙ sym (parts_renamed (name_in sets) (name_in relations) (numbered x)))

  width_held : width_of (held_in parts_of (take (min f.head.nodes most_nodes) f.nodes)) ≡ node_bits x
  unfolding numbered parts_of
  width_held = ap width_of (held_nodes parts_of (λ i bit d. refl)) ∙ width_nodes (numbered x) ∙ node_bits_rename _ _ x

module _ (n : ℕ) (a b : Spec) (x y : Derivation) (f g : Form) (in_f : NodesHeld x f) (in_g : NodesHeld y g) where
  abbrev D : Derivation
  D = joined n a b x y

  module _ (few : FewTables D) (m : SetNumbers) (k : RelationNumbers) (sets : ResultSets n a b x y m) (relations : ResultRelations n a b x y k)
      (room-sets : m.count ≤ most_tables) (room-relations : k.right.count ≤ most_tables) where
    pub joined_parts : file_parts n (sets_in D) (relations_in D) (numbered D)
        ≡ part 5 (length (sets_in D))
        ∷ part 5 (length (relations_in D))
        ∷ (map (part n) (sets_in D) ++ (map (part (n * n)) (relations_in D) ++ (parts_of (new_node 3 k.root)
        ++ (side_parts k.left.node m.first k.left.names f.nodes f.head.nodes
        ++ side_parts k.right.node m.second k.right.names g.nodes g.head.nodes))))
    unfolding file_parts in_order parts_of
    joined_parts =
        rw (
          side_parts_lem x f in_f k.left.node m.first k.left.names,
          side_parts_lem y g in_g k.right.node m.second k.right.names,
          numbered_joined n a b x y few in_f.few_tables in_g.few_tables m k sets relations room-sets room-relations,
        )

-- How many nodes and levels the joined derivation has.
module _ (n : ℕ) (a b : Spec) (x y : Derivation) where
  pub nodes_joined : nodes (joined n a b x y) ≡ 3 + nodes x + nodes y
  unfolding joined
  nodes_joined = omega arith

  pub levels_joined : levels (joined n a b x y) ≡ suc (suc (max (levels x) (levels y)))
  unfolding joined
  levels_joined = omega arith
