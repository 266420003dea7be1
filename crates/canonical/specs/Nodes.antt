-- The nodes of a table, a word each, and new names for the tables that they name.
use Rattle.std.specs.Prelude.{ℕ, ◌%◌, get_or}
use mathlib.Core.List.{List, flat_map}
use Rattle.derivation.specs.declared.Node.{Node}
use Rattle.derivation.specs.NodeTable.{node_of}

-- Entry i of a list of 16 names of 4 bits.
unfoldable pub name_in : List ℕ → ℕ → ℕ
name_in names i = get_or names (i % 16) 0 % 16

-- What the nodes of a table have, one after the other: `own` gives what a node has.
unfoldable pub held_in : {A : Type 0} → (Node → List A) → List ℕ → List A
held_in own words = flat_map (λ word. own (node_of word)) words
