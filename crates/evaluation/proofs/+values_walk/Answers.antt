-- The node says what is there. The walks of the operands give their rows and bound the integers in them.
use native.Mathlib.Nat.{pos_of_ne-zero}
use native.Mathlib.Omega.{arith}
use Rattle.evaluation.proofs.Laws.{states_most}
use Rattle.evaluation.proofs.Walking.{operation_inside, value_small, walked_out, walked_leaf, walked_left, walked_right, operands_small, walked_both}
use Rattle.evaluation.proofs.+values_walk.Goals as goal

pub returns-then-levels-eq0 : goal.returns-then-levels-eq0
returns-then-levels-eq0 t c = walked_out _ _ _ _ _ c.if-levels-eq0.true

pub leaf_row-requires : goal.leaf_row-requires
leaf_row-requires t c = (c.requires.0, c.if-term-lt-OPERATION.true, rw c.term_at-term.ensures (value_small c.args.exprs.now c.args.i))

pub returns-then-term-lt-OPERATION : goal.returns-then-term-lt-OPERATION
returns-then-term-lt-OPERATION t c =
    walked_leaf _ _ _ _ _ (pos_of_ne-zero c.if-levels-eq0.false) _ (rw c.term_at-term.ensures at c.leaf_row.ensures)

pub overflow_add-i : goal.overflow_add-i
overflow_add-i t c = omega (arith, operation_inside _ _ (rw c.term_at-term.ensures at c.if-term-lt-OPERATION.false))

pub returns-in_err-left : goal.returns-in_err-left
returns-in_err-left t c =
    rw c.from_residual.ensures
    (walked_left _ _ _ _ _ (pos_of_ne-zero c.if-levels-eq0.false) (rw c.term_at-term.ensures at c.if-term-lt-OPERATION.false) c.in_err-left.ensures)

pub returns-in_err-right : goal.returns-in_err-right
returns-in_err-right t c =
    rw c.from_residual-in_err-right.ensures
    (walked_right _ _ _ _ _ (pos_of_ne-zero c.if-levels-eq0.false) (rw c.term_at-term.ensures at c.if-term-lt-OPERATION.false)
    (rw c.term_at-term.ensures at c.in_err-right.ensures))

pub apply_op-requires : goal.apply_op-requires
apply_op-requires t c = (
  rw c.requires.0 (states_most c.args.head),
  operands_small _ _ _ _ _ (pos_of_ne-zero c.if-levels-eq0.false) (rw c.term_at-term.ensures at c.if-term-lt-OPERATION.false) _ _
      c.in_ok-left.ensures (rw c.term_at-term.ensures at c.in_ok-right.ensures) c.requires.1,
)

pub returns : goal.returns
returns t c =
    walked_both _ _ _ _ _ (pos_of_ne-zero c.if-levels-eq0.false) (rw c.term_at-term.ensures at c.if-term-lt-OPERATION.false) _ _
    c.in_ok-left.ensures (rw c.term_at-term.ensures at c.in_ok-right.ensures) _ (rw c.term_at-term.ensures at c.apply_op.ensures)
