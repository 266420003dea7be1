-- docs/FORMAT.md, "Expressions": an expression is 2 bits, then an integer, a truth value, a variable or an operation with its
-- two operands; at most 31 nodes.
use Rattle.std.specs.Prelude.{ℕ, zero, suc, ◌-◌, cond, List, leb, ltb, eqb, ℤ, pos, negsuc, Result, Ok, Err}
use Rattle.bits.specs.Fields.{fault_at, field_or}
use Rattle.bits.specs.declared.FileFault.{FileFault}
use Rattle.semantics.specs.Language.{Expr, lit, var, op, int, truth}
use Rattle.handler.specs.declared.expressions.ExprHead.{ExprHead}
use Rattle.handler.specs.declared.expressions.ExprHead.TheVariants.{Integer, Truth, Variable, Operation}

-- The most nodes of an expression.
abbrev pub most_expr_nodes : ℕ
most_expr_nodes = 31

-- The value of 8 bits in two's complement.
unfoldable pub signed : ℕ → ℤ
signed n = cond (ltb n 128) (pos n) (negsuc (255 - n))

-- What follows each tag. 15 (no such variable) and 14 (operation 7) are at the field after the tag.
unfoldable pub integer_head : Result (ℕ × ℕ) FileFault → Result ExprHead FileFault
integer_head (Err fault) = Err fault
integer_head (Ok (n, next)) = Ok (Integer (signed n) next)

unfoldable pub truth_head : Result (ℕ × ℕ) FileFault → Result ExprHead FileFault
truth_head (Err fault) = Err fault
truth_head (Ok (n, next)) = Ok (Truth (eqb n 1) next)

unfoldable pub variable_head : ℕ → ℕ → Result (ℕ × ℕ) FileFault → Result ExprHead FileFault
variable_head count at (Err fault) = Err fault
variable_head count at (Ok (v, next)) = cond (ltb v count) (Ok (Variable v next)) (Err (fault_at 15 at))

unfoldable pub operation_head : ℕ → Result (ℕ × ℕ) FileFault → Result ExprHead FileFault
operation_head at (Err fault) = Err fault
operation_head at (Ok (o, next)) = cond (eqb o 7) (Err (fault_at 14 at)) (Ok (Operation o next))

-- A field that is missing is 10.
unfoldable pub payload_head : List ℕ → ℕ → ℕ → ℕ → Result ExprHead FileFault
payload_head bytes count at tag =
    cond (eqb tag 0) (integer_head (field_or bytes at 8 10))
    (cond (eqb tag 1) (truth_head (field_or bytes at 1 10))
    (cond (eqb tag 2) (variable_head count at (field_or bytes at 2 10)) (operation_head at (field_or bytes at 3 10))))

-- A node's tag: 10 if it is missing, then 17 at the 32nd node, then what follows the tag.
unfoldable pub tag_head : List ℕ → ℕ → ℕ → ℕ → Result (ℕ × ℕ) FileFault → Result ExprHead FileFault
tag_head bytes count nodes at (Err fault) = Err fault
tag_head bytes count nodes at (Ok (tag, next)) = cond (leb most_expr_nodes nodes) (Err (fault_at 17 at)) (payload_head bytes count next tag)

-- The head of the node at a cursor, with `nodes` nodes of the expression before it.
unfoldable pub expr_head : List ℕ → ℕ → ℕ → ℕ → Result ExprHead FileFault
expr_head bytes count nodes at = tag_head bytes count nodes at (field_or bytes at 2 10)

-- An expression, the number of nodes so far and the cursor after it; or the first fault.
pub data ExprRead : Type 0 where
  good : Expr → ℕ → ℕ → ExprRead
  bad : ℕ → ℕ → ExprRead

abbrev pub joined : ℕ → Expr → ExprRead → ExprRead
joined o l (bad k place) = bad k place
joined o l (good r nodes next) = good (op o l r) nodes next

abbrev pub operands : ℕ → ExprRead → (ℕ → ℕ → ExprRead) → ExprRead
operands o (bad k place) right = bad k place
operands o (good l nodes next) right = joined o l (right nodes next)

abbrev pub on_expr_head : Result ExprHead FileFault → ℕ → (ℕ → ℕ → ExprRead) → ExprRead
on_expr_head (Ok (Integer z next)) nodes expr = good (lit (int z)) (suc nodes) next
on_expr_head (Ok (Truth b next)) nodes expr = good (lit (truth b)) (suc nodes) next
on_expr_head (Ok (Variable v next)) nodes expr = good (var v) (suc nodes) next
on_expr_head (Ok (Operation o next)) nodes expr = operands o (expr (suc nodes) next) expr
on_expr_head (Err fault) nodes expr = bad fault.number fault.bit

-- The expression at a cursor. `levels` starts at one more than the 31 that there can be, so it never runs out.
unfoldable pub expr_at : ℕ → List ℕ → ℕ → ℕ → ℕ → ExprRead
expr_at zero bytes count nodes at = bad 17 at
expr_at (suc levels) bytes count nodes at = on_expr_head (expr_head bytes count nodes at) nodes (expr_at levels bytes count)

-- The whole expression at a cursor.
unfoldable pub whole_expr : List ℕ → ℕ → ℕ → ExprRead
whole_expr bytes count at = expr_at (suc most_expr_nodes) bytes count 0 at
