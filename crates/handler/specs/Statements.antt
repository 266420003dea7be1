-- docs/FORMAT.md, "Statements": a statement is 3 bits, then what its code asks for; at most 63 statements on at most 16 levels.
use Rattle.std.specs.Prelude.{ℕ, zero, suc, Bool, cond, ◌||◌, List, leb, ltb, eqb, Result, Ok, Err}
use Rattle.bits.specs.Fields.{fault_at, field_or}
use Rattle.bits.specs.declared.FileFault.{FileFault}
use Rattle.semantics.specs.Language.{Expr, Stmt, nil, assign, seq, par, if, while}
use Rattle.handler.specs.declared.StmtHead.{StmtHead}
use Rattle.handler.specs.declared.StmtHead.TheVariants.{Nil, Assign, Pair, Test}
use Rattle.handler.specs.Expressions.{ExprRead, good, bad, whole_expr}

-- The most statements of a handler, and the most levels of them.
abbrev pub most_statements : ℕ
most_statements = 63

abbrev pub most_statement_levels : ℕ
most_statement_levels = 16

-- An assignment's variable: 15, at its field, if there is no such variable.
unfoldable pub target_head : ℕ → ℕ → Result (ℕ × ℕ) FileFault → Result StmtHead FileFault
target_head count at (Err fault) = Err fault
target_head count at (Ok (v, next)) = cond (ltb v count) (Ok (Assign v next)) (Err (fault_at 15 at))

-- What follows each code: 14 for the unused codes 6 and 7.
unfoldable pub code_head : List ℕ → ℕ → ℕ → ℕ → ℕ → Result StmtHead FileFault
code_head bytes count at code next =
    cond (eqb code 0) (Ok (Nil next))
    (cond (eqb code 1) (target_head count next (field_or bytes next 2 10))
    (cond (ltb code 4) (Ok (Pair code next)) (cond (ltb code 6) (Ok (Test code next)) (Err (fault_at 14 at)))))

-- A statement's code: 10 if it is missing, then 17 at the 64th statement or the 17th level, then what follows the code.
unfoldable pub mark_head : List ℕ → ℕ → Bool → ℕ → Result (ℕ × ℕ) FileFault → Result StmtHead FileFault
mark_head bytes count tooMany at (Err fault) = Err fault
mark_head bytes count tooMany at (Ok (code, next)) = cond tooMany (Err (fault_at 17 at)) (code_head bytes count at code next)

-- The head of the statement at a cursor, with `before` statements before it and `below` levels left below it.
unfoldable pub stmt_head : List ℕ → ℕ → ℕ → ℕ → ℕ → Result StmtHead FileFault
stmt_head bytes count below before at = mark_head bytes count (eqb below 0 || leb most_statements before) at (field_or bytes at 3 10)

-- A statement, the number of statements so far and the cursor after it; or the first fault.
pub data StmtRead : Type 0 where
  whole : Stmt → ℕ → ℕ → StmtRead
  fault : ℕ → ℕ → StmtRead

abbrev pub paired : ℕ → Stmt → Stmt → Stmt
paired code l r = cond (eqb code 2) (seq l r) (par l r)

abbrev pub tested : ℕ → Expr → Stmt → Stmt
tested code e b = cond (eqb code 4) (if e b) (while e b)

abbrev pub on_assigned : ℕ → ℕ → ExprRead → StmtRead
on_assigned v before (bad k place) = fault k place
on_assigned v before (good e nodes next) = whole (assign v e) before next

abbrev pub on_body : ℕ → Expr → StmtRead → StmtRead
on_body code e (fault k place) = fault k place
on_body code e (whole b before next) = whole (tested code e b) before next

abbrev pub on_test : ℕ → ℕ → ExprRead → (ℕ → ℕ → StmtRead) → StmtRead
on_test code before (bad k place) body = fault k place
on_test code before (good e nodes next) body = on_body code e (body before next)

abbrev pub on_right : ℕ → Stmt → StmtRead → StmtRead
on_right code l (fault k place) = fault k place
on_right code l (whole r before next) = whole (paired code l r) before next

abbrev pub on_left_side : ℕ → StmtRead → (ℕ → ℕ → StmtRead) → StmtRead
on_left_side code (fault k place) right = fault k place
on_left_side code (whole l before next) right = on_right code l (right before next)

abbrev pub on_stmt_head : Result StmtHead FileFault → (ℕ → ExprRead) → ℕ → (ℕ → ℕ → StmtRead) → StmtRead
on_stmt_head (Ok (Nil next)) expr before stmt = whole nil (suc before) next
on_stmt_head (Ok (Assign v next)) expr before stmt = on_assigned v (suc before) (expr next)
on_stmt_head (Ok (Pair code next)) expr before stmt = on_left_side code (stmt (suc before) next) stmt
on_stmt_head (Ok (Test code next)) expr before stmt = on_test code (suc before) (expr next) stmt
on_stmt_head (Err f) expr before stmt = fault f.number f.bit

-- The statement at a cursor. `levels` starts at one more than the 16 that there can be: a field that is missing on the 17th level is
-- 10, not 17, and `levels` never runs out.
unfoldable pub stmt_at : ℕ → List ℕ → ℕ → ℕ → ℕ → StmtRead
stmt_at zero bytes count before at = fault 17 at
stmt_at (suc levels) bytes count before at =
    on_stmt_head (stmt_head bytes count levels before at) (whole_expr bytes count) before (stmt_at levels bytes count)

unfoldable pub whole_stmt : List ℕ → ℕ → ℕ → StmtRead
whole_stmt bytes count at = stmt_at (suc most_statement_levels) bytes count 0 at
