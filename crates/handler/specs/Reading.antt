-- docs/FORMAT.md, "Order of faults": the handler file front to back, then 16 if the file has no other fault.
use Rattle.std.specs.Prelude.{ℕ, List, length, Option, Some, None, Result, Ok, Err}
use Rattle.bits.specs.Fields.{fill_at}
use Rattle.semantics.specs.Language.{Stmt}
use Rattle.handler.specs.Header as head
use Rattle.handler.specs.Statements.{StmtRead, whole, fault, whole_stmt}
use Rattle.handler.specs.Kinds.{stmt_kind_error}

-- A handler file: the sizes of its variables, the statement's first bit and the statement; or its first fault.
pub data HandlerRead : Type 0 where
  handler : List ℕ → ℕ → Stmt → HandlerRead
  refused : ℕ → ℕ → HandlerRead

abbrev pub on_kinds : List ℕ → ℕ → Stmt → Option ℕ → HandlerRead
on_kinds sizes at S None = handler sizes at S
on_kinds sizes at S (Some place) = refused 16 place

-- 18: a fill bit is not zero, or a byte follows the last field.
abbrev pub on_handler_fill : List ℕ → ℕ → Stmt → Result (Unit {0}) ℕ → HandlerRead
on_handler_fill sizes at S (Ok _) = on_kinds sizes at S (stmt_kind_error at S)
on_handler_fill sizes at S (Err place) = refused 18 place

abbrev pub on_stmt : List ℕ → List ℕ → ℕ → StmtRead → HandlerRead
on_stmt bytes sizes at (fault k place) = refused k place
on_stmt bytes sizes at (whole S after next) = on_handler_fill sizes at S (fill_at bytes next)

abbrev pub on_head : List ℕ → head.HeadRead → HandlerRead
on_head bytes (head.fault k place) = refused k place
on_head bytes (head.declared sizes at) = on_stmt bytes sizes at (whole_stmt bytes (length sizes) at)

unfoldable pub read_handler : List ℕ → HandlerRead
read_handler bytes = on_head bytes (head.head_at bytes)
