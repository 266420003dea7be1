-- Which child a refusal with 34 or 36 to 38 is about. A rule asks all of its left child before anything of its right child: so it is the
-- right child if everything that is asked of the left one holds.
use Rattle.std.specs.Prelude.{ℕ, suc, Bool, true, cond, ◌&&◌, ◌||◌, List, [], ◌∷◌, Option, Some, None, take, ◌==◌}
use Rattle.states.specs.Search.{holds}
use Rattle.semantics.specs.declared.Names.{Names}
use Rattle.semantics.specs.Checking.{Condition, sequence_tables, parallel_tables}
use Rattle.derivation.specs.declared.Node.{Node}
use Rattle.derivation.specs.NodeTable.{node_in}
use Rattle.rules.specs.Words.{word_spec}
use Rattle.explain.specs.declared.children.Child.{Child}
use Rattle.explain.specs.declared.children.Child.TheVariants.{Body, Left, Right}

-- The numbers of the children's tables.
unfoldable pub of_child : ℕ → Bool
of_child k = k == 34 || k == 36 || k == 37 || k == 38

abbrev pub hold_all : List Condition → Bool
hold_all [] = true
hold_all (c ∷ rest) = holds c.breach && hold_all rest

-- The child, by the conditions that are asked of the left one.
unfoldable pub side_by : List Condition → Child
side_by left = cond (hold_all left) Right Left

module _ (n : ℕ) (work : List ℕ) where
  -- Of the conditions on the children's tables, a sequence asks the first three of its left child, a parallel the first two.
  unfoldable pub left_of_sequence : Names → Names → Names → List Condition
  left_of_sequence own l r = take 3 (sequence_tables n (word_spec n work own) (word_spec n work l) (word_spec n work r))

  unfoldable pub left_of_parallel : Names → Names → Names → List Condition
  left_of_parallel own l r = take 2 (parallel_tables n (word_spec n work own) (word_spec n work l) (word_spec n work r))

  -- By the rule of the node: sequence, parallel, if or while; no other rule asks this of a child.
  unfoldable pub child_at : Node → Node → Node → Option Child
  child_at node first second =
      cond (node.rule == 2) (Some (side_by (left_of_sequence node.names first.names second.names)))
      (cond (node.rule == 3) (Some (side_by (left_of_parallel node.names first.names second.names)))
      (cond (node.rule == 4 || node.rule == 5) (Some Body) None))

  -- Node i of a table; its children are the node after it and the one that the table names.
  unfoldable pub child_of : List ℕ → ℕ → ℕ → Option Child
  child_of nodes k i = cond (of_child k) (child_at (node_in nodes i) (node_in nodes (suc i)) (node_in nodes (node_in nodes i).after)) None
