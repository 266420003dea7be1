-- The loop over the nodes of the table: nodes by number, a node's conditions in their order.
use Rattle.std.specs.Prelude.{ℕ, zero, suc, cond, List, Result, Ok, Err, eqb}
use Rattle.std.proofs.Math.Option.{Option, none, some}
use Rattle.semantics.specs.Checking.{Condition, Broken, first_broken, or_broken, at_node}
use Rattle.handler.specs.declared.head.Head.{Head}
use Rattle.handler.specs.StatementTable.{statement_in}
use Rattle.derivation.specs.NodeTable.{node_in}
use Rattle.search.specs.Named.{naming}
use Rattle.rules.specs.Obligations.{obligations_in}
use Rattle.checker.specs.declared.Fault.{Fault}
use Rattle.checker.specs.declared.Place.TheVariants.{Node}

-- The statement at hand after a node: the same after a weaken, whose child has the same statement; the next after any other node.
unfoldable pub statement_after : ℕ → ℕ → ℕ
statement_after rule s = cond (eqb rule 6) s (suc s)

-- The statement at hand for a node of the table: statement 0 for the root, and for each further node the one after the node before it.
unfoldable pub statement_at : List ℕ → ℕ → ℕ
statement_at nodes zero = 0
statement_at nodes (suc i) = statement_after (node_in nodes i).rule (statement_at nodes i)

module _ (exprs : List ℕ) (head : Head) (work nodes statements : List ℕ) where
  -- The conditions of node i over statement s. Its first child is the node after it, its second the one that the table names.
  unfoldable pub obligations_at : ℕ → ℕ → List Condition
  obligations_at i s =
      obligations_in exprs head work (node_in nodes i) (statement_in statements s) (node_in nodes (suc i)) (node_in nodes (node_in nodes i).after)

  -- The first fault of `count` nodes from node i on, with statement s at hand.
  unfoldable pub faults_from : ℕ → ℕ → ℕ → Option Broken
  faults_from zero i s = none
  faults_from (suc count) i s =
      or_broken (at_node i (first_broken (obligations_at i s))) (faults_from count (suc i) (statement_after (node_in nodes i).rule s))

-- The code's answer: a fault has its node as its place.
abbrev pub fault_found : Option Broken → Result Unit Fault
fault_found none = Ok tt
fault_found (some b) = Err (record { number = b.number; place = Node b.node; states = naming b.states })
