-- The head says which case of `on_expr_head` holds.
use native.Mathlib.Numerals.{add-one}
use Rattle.handler.specs.Shapes.{expr_shape}
use Rattle.handler.proofs.expressions.leaf_of.Goals.{in-Integer, in-Truth, in-Variable}
use Rattle.handler.proofs.expressions.leaf_of.Goals as goal

pub returns-in-Operation : goal.returns-in-Operation
unfolding expr_shape
returns-in-Operation c = rw c.in-Operation.is

pub returns : goal.returns
unfolding expr_shape
returns c =
    rw (c.wanted_of.ensures, add-one) (elim c.match-head.branch [
      | in-Integer w ↦ rw (w.kind-is, w.in-Integer.is)
      | in-Truth w ↦ rw (w.kind-is, w.in-Truth.is)
      | in-Variable w ↦ rw (w.kind-is, w.in-Variable.is)
    ])
