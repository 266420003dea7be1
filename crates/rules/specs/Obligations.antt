-- The conditions on a node of the table over a statement of the table, by the node's rule, with the tables in the work words and the
-- expressions in a table of nodes.
use Rattle.std.specs.Prelude.{ℕ, cond, List, eqb}
use Rattle.semantics.specs.Language.{Expr}
use Rattle.semantics.specs.Derivations.{Spec}
use Rattle.semantics.specs.Checking.{Condition, skip_obligations, assignment_obligations, sequence_obligations, parallel_obligations, if_obligations, while_obligations, weaken_obligations}
use Rattle.handler.specs.declared.head.Head.{Head}
use Rattle.handler.specs.Header.{machine_in}
use Rattle.handler.specs.Terms.{expr_in}
use Rattle.handler.specs.declared.table.Statement.{Statement}
use Rattle.derivation.specs.declared.Node.{Node}
use Rattle.rules.specs.Words.{word_set, word_relation, word_spec}

module _ (exprs : List ℕ) (head : Head) (work : List ℕ) where
  abbrev states : ℕ
  states = (machine_in head).states

  -- The tables that a node names, and the expression of a statement.
  abbrev spec_in : Node → Spec
  spec_in node = word_spec states work node.names

  abbrev expr_of_statement : Statement → Expr
  expr_of_statement statement = expr_in exprs statement.expr

  -- The rules by their codes; `first` and `second` are the node's children, as far as its rule has them.
  unfoldable pub obligations_in : Node → Statement → Node → Node → List Condition
  obligations_in node statement first second =
      cond (eqb node.rule 0) (skip_obligations states (eqb statement.code 0) (spec_in node))
      (cond (eqb node.rule 1)
      (assignment_obligations (machine_in head) (eqb statement.code 1) (spec_in node) statement.target (expr_of_statement statement))
      (cond (eqb node.rule 2)
      (sequence_obligations states (eqb statement.code 2) (spec_in node) (spec_in first) (spec_in second))
      (cond (eqb node.rule 3)
      (parallel_obligations states (eqb statement.code 3) (spec_in node) (spec_in first) (spec_in second))
      (cond (eqb node.rule 4)
      (if_obligations (machine_in head) (eqb statement.code 4) (spec_in node) (expr_of_statement statement) (spec_in first))
      (cond (eqb node.rule 5)
      (while_obligations (machine_in head) (eqb statement.code 5) (spec_in node) (expr_of_statement statement)
      (word_set states work node.k) (word_relation states work node.w) (spec_in first))
      (weaken_obligations states (spec_in node) (spec_in first)))))))
