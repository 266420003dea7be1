-- The fields that the code writes are those of the form, and there are as many bits of them as the code counts.
use Prim.Native.Nat.{ℕ, ◌+◌, ◌*◌, ◌/◌}
use mathlib.Core.List.{List, ◌++◌}
use mathlib.Core.Path.{◌≡◌, refl, sym, ◌∙◌, ap}
use lib.ListN.{length, take, replicate}
use Rattle.writer.specs.Packing.{width_of, put_parts, bytes_for}
use Rattle.writer.proofs.Packed.{length_packed, packed_front}
use Rattle.semantics.specs.Derivations.{Derivation, nodes}
use Rattle.derivation.specs.NodeTable.{node_bits, node_table}
use Rattle.derivation.specs.Reading.{proof, read_proof}
use Rattle.form.specs.Members.{node_by, by_members}
use Rattle.form.specs.Mentions.{in_order}
use Rattle.form.specs.Form.{sets_in, relations_in, numbered, parts_of, file_parts, form_of}
use Rattle.form.proofs.Renaming.{node_bits_rename, parts_renamed}
use Rattle.form.proofs.NodesBack.{width_nodes}
use Rattle.form.proofs.FileBack.{width_file}
use Rattle.canonical.specs.declared.Numbering.{Numbering}
use Rattle.canonical.specs.Nodes.{name_in, held_in}
use Rattle.canonical.specs.Refinement.{Numbers, parts_in}
use Rattle.canonical.proofs.Numbered.{nodes_read}

module _ (bytes : List ℕ) (n sets relations root : ℕ) (d : Derivation) (e : read_proof bytes n ≡ proof sets relations root d)
    (m : Numbering) (is : Numbers bytes n sets d m) where
  abbrev x : Derivation
  x = by_members bytes n sets d

  nodes_are : held_in (λ x. parts_of (node_by (name_in m.sets.names) (name_in m.relations.names) x)) (take (nodes d) (node_table root d))
      ≡ in_order parts_of (numbered x)
  unfolding parts_of
  nodes_are = nodes_read bytes n sets relations root d e _ (λ i bit d. refl) ∙ sym (parts_renamed _ _ d) ∙ ap (in_order parts_of) is.renamed

  pub parts_are : parts_in bytes n sets m (take (nodes d) (node_table root d)) ≡ file_parts n (sets_in x) (relations_in x) (numbered x)
  unfolding parts_in file_parts
  parts_are =
      rw (is.of_sets.are, is.of_relations.are, is.of_sets.counted, is.of_relations.counted, nodes_are)

  -- The numbers do not change how many bits the nodes have.
  pub width_is : width_of (file_parts n (sets_in x) (relations_in x) (numbered x))
      ≡ 10 + n * m.sets.count + n * n * m.relations.count + width_of (held_in parts_of (take (nodes d) (node_table root d)))
  unfolding parts_of
  width_is =
      let same : node_bits (numbered x) ≡ node_bits d = ap node_bits (sym is.renamed) ∙ node_bits_rename _ _ d in
      let nodes_width : width_of (held_in parts_of (take (nodes d) (node_table root d))) ≡ node_bits d = ap width_of (nodes_read bytes n sets relations root d e parts_of (λ i bit d. refl)) ∙ width_nodes d in
      rw (is.of_sets.counted, is.of_relations.counted, nodes_width, ← same) (width_file n (sets_in x) (relations_in x) (numbered x))

  -- What is put into cleared bytes is the form.
  pub length_is : (bits : ℕ) → bits ≡ width_of (file_parts n (sets_in x) (relations_in x) (numbered x)) → (bits + 7) / 8 ≡ length (form_of n x)
  unfolding form_of bytes_for
  length_is bits e = ap (λ b. (b + 7) / 8) e ∙ sym (length_packed (file_parts n (sets_in x) (relations_in x) (numbered x)))

  pub form_put : (k : ℕ) (rest : List ℕ) → k ≡ length (form_of n x)
      → put_parts (replicate k 0 ++ rest) 0 (parts_in bytes n sets m (take (nodes d) (node_table root d))) ≡ form_of n x ++ rest
  unfolding form_of
  form_put k rest is-length =
      rw (parts_are, is-length, length_packed (file_parts n (sets_in x) (relations_in x) (numbered x)))
      (packed_front (file_parts n (sets_in x) (relations_in x) (numbered x)) rest)
