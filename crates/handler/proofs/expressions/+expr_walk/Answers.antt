-- The head, the row and the walks of the two operands are taken apart in turn. Each return is one law of Shapes and one of Filling.
use Prim.Native.Nat.{ℕ, ◌<◌}
use mathlib.Core.List.{List}
use mathlib.Core.Path.{◌≡◌, sym, ap, ◌∙◌}
use native.Mathlib.Nat.{pos_of_ne-zero}
use native.Mathlib.Omega.{arith}
use borrow.Author.Rules.{rules}
use Rattle.std.specs.Prelude.{Ok}
use Rattle.std.specs.Result.{result_ok}
use Rattle.handler.specs.declared.expressions.ExprHead.TheVariants.{Operation}
use Rattle.handler.specs.Expressions.{expr_head, bad, expr_at}
use Rattle.handler.specs.Shapes.{expr_shape}
use Rattle.handler.proofs.Folds.{expr_step, childless, row_used, Headed, headed_as}
use Rattle.handler.proofs.Shapes.{shaped, shape_small, left_operand_fault, right_operand_fault, op_shape}
use Rattle.handler.proofs.Filling.{head_fits, leaf_filled, expr_fault_filled, operation_filled}
use Rattle.handler.proofs.expressions.+expr_walk.Goals as goal

-- What the head of an operation says: there was room for the node, and the operation has a row.
room : (bytes : List ℕ) (count nodes at o next : ℕ) → expr_head bytes count nodes at ≡ Ok (Operation o next) → (nodes < 31) × (o < 7)
unfolding Headed
room bytes count nodes at o next e = let known = headed_as bytes count nodes at _ e in (known.0, known.2)

pub returns-then-levels-eq0-clause-value : goal.returns-then-levels-eq0-clause-value
unfolding expr_at expr_shape
returns-then-levels-eq0-clause-value t c = rw c.if-levels-eq0.true

pub returns-then-levels-eq0-clause-terms_stored : goal.returns-then-levels-eq0-clause-terms_stored
unfolding expr_at
returns-then-levels-eq0-clause-terms_stored t c = rw c.if-levels-eq0.true tt

pub returns-in_err-head-clause-value : goal.returns-in_err-head-clause-value
unfolding expr_shape
returns-in_err-head-clause-value t c =
    rw (expr_step _ _ _ _ _ _ (pos_of_ne-zero c.if-levels-eq0.false) (sym c.expr_head_at.ensures ∙ c.in_err-head.was)) (search rules)

pub returns-in_err-head-clause-terms_stored : goal.returns-in_err-head-clause-terms_stored
returns-in_err-head-clause-terms_stored t c =
    rw (expr_step _ _ _ _ _ _ (pos_of_ne-zero c.if-levels-eq0.false) (sym c.expr_head_at.ensures ∙ c.in_err-head.was)) tt

pub leaf_term-requires : goal.leaf_term-requires
leaf_term-requires t c = head_fits _ _ _ _ _ (sym c.expr_head_at.ensures ∙ c.in_ok-head.was)

pub returns-in_default : goal.returns-in_default
returns-in_default t c =
    let more = pos_of_ne-zero c.if-levels-eq0.false in
    let head = sym c.expr_head_at.ensures ∙ c.in_ok-head.was in
    let leaf = c.in_default.not-Operation in
    record {
      value = rw (expr_step _ _ _ _ _ _ more head, childless c.in_ok-head.head leaf _ _ (λ _ place. bad 14 place)) c.leaf_of.ensures;
      terms_stored = leaf_filled _ _ _ _ _ _ more _ head leaf _ _ (rw c.leaf_term.ensures.0 at c.store_term.ensures);
    }

pub returns-in_err-a-clause-value : goal.returns-in_err-a-clause-value
returns-in_err-a-clause-value t c =
    let head = sym c.expr_head_at.ensures ∙ c.in_ok-head.was ∙ ap Ok c.in-Operation.is in
    absurd (row_used _ (room _ _ _ _ _ _ head).1 (sym c.row_of.ensures ∙ c.ok_or.ensures.ok_part ∙ ap result_ok c.in_err-a.was))

pub returns-in_err-a-clause-terms_stored :
    goal.returns-in_err-a-clause-terms_stored
returns-in_err-a-clause-terms_stored t c =
    let head = sym c.expr_head_at.ensures ∙ c.in_ok-head.was ∙ ap Ok c.in-Operation.is in
    absurd (row_used _ (room _ _ _ _ _ _ head).1 (sym c.row_of.ensures ∙ c.ok_or.ensures.ok_part ∙ ap result_ok c.in_err-a.was))

pub expr_walk-requires : goal.expr_walk-requires
expr_walk-requires t c =
    let head = sym c.expr_head_at.ensures ∙ c.in_ok-head.was ∙ ap Ok c.in-Operation.is in
    omega (arith, pos_of_ne-zero c.if-levels-eq0.false, room _ _ _ _ _ _ head)

pub returns-in_err-left-clause-value : goal.returns-in_err-left-clause-value
returns-in_err-left-clause-value t c =
    let head = sym c.expr_head_at.ensures ∙ c.in_ok-head.was ∙ ap Ok c.in-Operation.is in
    let row = sym c.row_of.ensures ∙ c.ok_or.ensures.ok_part ∙ ap result_ok c.in_ok-a.was in
    let left = sym c.expr_walk.ensures.value ∙ c.in_err-left.was in
    rw (← left_operand_fault _ _ _ _ _ _ _ (pos_of_ne-zero c.if-levels-eq0.false) head c.args.wanted _ _ _ row _ left) (search rules)

pub returns-in_err-left-clause-terms_stored :
    goal.returns-in_err-left-clause-terms_stored
returns-in_err-left-clause-terms_stored t c =
    let more = pos_of_ne-zero c.if-levels-eq0.false in
    let head = sym c.expr_head_at.ensures ∙ c.in_ok-head.was ∙ ap Ok c.in-Operation.is in
    let row = sym c.row_of.ensures ∙ c.ok_or.ensures.ok_part ∙ ap result_ok c.in_ok-a.was in
    let left = sym c.expr_walk.ensures.value ∙ c.in_err-left.was in
    expr_fault_filled _ _ _ _ _ _ more c.args.wanted _ _ _ (left_operand_fault _ _ _ _ _ _ _ more head _ _ _ _ row _ left)

pub overflow_add-term : goal.overflow_add-term
overflow_add-term t c = omega (arith, shape_small _ _ _ _ _ _ _ (sym c.expr_walk.ensures.value ∙ c.in_ok-left.was))

pub store_term-requires-2 : goal.store_term-requires-2
store_term-requires-2 t c =
    let head = sym c.expr_head_at.ensures ∙ c.in_ok-head.was ∙ ap Ok c.in-Operation.is in
    let left = sym c.expr_walk.ensures.value ∙ c.in_ok-left.was in
    record { tag = omega arith; value = omega (arith, room _ _ _ _ _ _ head); right = omega (arith, shape_small _ _ _ _ _ _ _ left) }

pub expr_walk-requires-2 : goal.expr_walk-requires-2
expr_walk-requires-2 t c =
    let left = sym c.expr_walk.ensures.value ∙ c.in_ok-left.was in
    omega (arith, pos_of_ne-zero c.if-levels-eq0.false, shape_small _ _ _ _ _ _ _ left)

pub returns-in_err-right-clause-value : goal.returns-in_err-right-clause-value
returns-in_err-right-clause-value t c =
    let head = sym c.expr_head_at.ensures ∙ c.in_ok-head.was ∙ ap Ok c.in-Operation.is in
    let row = sym c.row_of.ensures ∙ c.ok_or.ensures.ok_part ∙ ap result_ok c.in_ok-a.was in
    let left = sym c.expr_walk.ensures.value ∙ c.in_ok-left.was in
    let right = sym c.expr_walk-2.ensures.value ∙ c.in_err-right.was in
    rw (← right_operand_fault _ _ _ _ _ _ _ (pos_of_ne-zero c.if-levels-eq0.false) head c.args.wanted _ _ _ row _ left _ right) (search rules)

pub returns-in_err-right-clause-terms_stored :
    goal.returns-in_err-right-clause-terms_stored
returns-in_err-right-clause-terms_stored t c =
    let more = pos_of_ne-zero c.if-levels-eq0.false in
    let head = sym c.expr_head_at.ensures ∙ c.in_ok-head.was ∙ ap Ok c.in-Operation.is in
    let row = sym c.row_of.ensures ∙ c.ok_or.ensures.ok_part ∙ ap result_ok c.in_ok-a.was in
    let left = sym c.expr_walk.ensures.value ∙ c.in_ok-left.was in
    let right = sym c.expr_walk-2.ensures.value ∙ c.in_err-right.was in
    expr_fault_filled _ _ _ _ _ _ more c.args.wanted _ _ _ (right_operand_fault _ _ _ _ _ _ _ more head _ _ _ _ row _ left _ right)

pub overflow_add-result : goal.overflow_add-result
overflow_add-result t c =
    let left = sym c.expr_walk.ensures.value ∙ c.in_ok-left.was in
    let right = sym c.expr_walk-2.ensures.value ∙ c.in_ok-right.was in
    omega (arith, shape_small _ _ _ _ _ _ _ left, shape_small _ _ _ _ _ _ _ right)

pub overflow_add-result-2 : goal.overflow_add-result-2
overflow_add-result-2 t c =
    let left = sym c.expr_walk.ensures.value ∙ c.in_ok-left.was in
    let right = sym c.expr_walk-2.ensures.value ∙ c.in_ok-right.was in
    omega (arith, shape_small _ _ _ _ _ _ _ left, shape_small _ _ _ _ _ _ _ right)

pub returns-clause-value : goal.returns-clause-value
returns-clause-value t c =
    let head = sym c.expr_head_at.ensures ∙ c.in_ok-head.was ∙ ap Ok c.in-Operation.is in
    let row = sym c.row_of.ensures ∙ c.ok_or.ensures.ok_part ∙ ap result_ok c.in_ok-a.was in
    let left = sym c.expr_walk.ensures.value ∙ c.in_ok-left.was in
    let right = sym c.expr_walk-2.ensures.value ∙ c.in_ok-right.was in
    rw (c.wanted_of.ensures, c.or.ensures)
    (op_shape _ _ _ _ _ _ _ (pos_of_ne-zero c.if-levels-eq0.false) head _ _ _ _ row _ left _ right)

pub returns-clause-terms_stored : goal.returns-clause-terms_stored
returns-clause-terms_stored t c =
    let head = sym c.expr_head_at.ensures ∙ c.in_ok-head.was ∙ ap Ok c.in-Operation.is in
    let left = shaped _ _ _ _ (sym c.expr_walk.ensures.value ∙ c.in_ok-left.was) in
    operation_filled _ _ _ _ _ _ (pos_of_ne-zero c.if-levels-eq0.false) _ _ head left.tree _ _ left.was _ _ _ _
    c.expr_walk.ensures.terms_stored c.store_term-2.ensures c.expr_walk-2.ensures.terms_stored
