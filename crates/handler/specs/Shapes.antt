-- What the walks over the bits answer, from what is read there: what is defined over trees, with no tree in the answer.
-- First for expressions, then for statements, then for the file.
use Rattle.std.specs.Prelude.{ℕ, suc, ◌+◌, ◌-◌, ◌*◌, ◌^◌, min, max, cond, List, eqb, length, replicate, Option, Some, None, Result, Ok, Err}
use Rattle.std.specs.Option.{option_or}
use Rattle.std.proofs.lemmas.List.Edits.{sets}
use Rattle.bits.specs.Fields.{fault_at, fill_at}
use Rattle.bits.specs.declared.FileFault.{FileFault}
use Rattle.semantics.specs.declared.Kind.{Kind}
use Rattle.semantics.specs.Language.{Expr, Stmt}
use Rattle.semantics.specs.States.{product}
use Rattle.semantics.specs.StepNumber.{E, steps}
use Rattle.handler.specs.declared.expressions.ExprSummary.{ExprSummary}
use Rattle.handler.specs.declared.StmtSummary.{StmtSummary}
use Rattle.handler.specs.declared.HandlerSummary.{HandlerSummary}
use Rattle.handler.specs.declared.HandlerFile.{HandlerFile}
use Rattle.handler.specs.Header.{head_of}
use Rattle.handler.specs.Expressions.{ExprRead, good, bad}
use Rattle.handler.specs.Statements.{StmtRead, whole, fault}
use Rattle.handler.specs.Kinds.{kind_error, stmt_width, stmt_kind_error}
use Rattle.handler.specs.Terms.{stmt_terms, handler_terms}
use Rattle.handler.specs.StatementTable.{statements, stmt_levels, statement_table}
use Rattle.handler.specs.Reading.{HandlerRead, handler, refused}

-- The summary of an expression at a place, of which a kind is wanted: its kind error and its E.
abbrev pub expr_summary : Kind → ℕ → Expr → ℕ → ℕ → ExprSummary
expr_summary wanted at e nodes next = record { error = kind_error wanted at e; e = E e; nodes = nodes; next = next }

unfoldable pub expr_shape : Kind → ℕ → ExprRead → Result ExprSummary FileFault
expr_shape wanted at (good e nodes next) = Ok (expr_summary wanted at e nodes next)
expr_shape wanted at (bad k place) = Err (fault_at k place)

-- The summary of a statement at a place, over N states: its step number, capped at 2 ^ 32, one past the limit, its kind error, its
-- levels, and the number of expression nodes after it if there are i before it.
abbrev pub stmt_summary : ℕ → ℕ → ℕ → Stmt → ℕ → ℕ → StmtSummary
stmt_summary N i at S after next =
    record {
      steps = min (steps N S) (2 ^ 32);
      error = stmt_kind_error at S;
      statements = after;
      terms = i + stmt_terms S;
      levels = stmt_levels S;
      next = next;
    }

unfoldable pub stmt_shape : ℕ → ℕ → ℕ → StmtRead → Result StmtSummary FileFault
stmt_shape N i at (whole S after next) = Ok (stmt_summary N i at S after next)
stmt_shape N i at (fault k place) = Err (fault_at k place)

-- The summary of a statement from those of its parts: nil, an assignment, a sequence or parallel, an if (4) or while (5).
abbrev pub nil_of : ℕ → ℕ → ℕ → StmtSummary
nil_of after i next = record { steps = 0; error = None; statements = after; terms = i; levels = 1; next = next }

abbrev pub assigned_of : ℕ → ℕ → ExprSummary → StmtSummary
assigned_of after i e =
    record { steps = min (e.e + 1) (2 ^ 32); error = e.error; statements = after; terms = i + e.nodes; levels = 1; next = e.next }

abbrev pub pair_of : StmtSummary → StmtSummary → StmtSummary
pair_of l r =
    record {
      steps = min (l.steps + r.steps + 1) (2 ^ 32);
      error = option_or l.error r.error;
      statements = r.statements;
      terms = r.terms;
      levels = suc (max l.levels r.levels);
      next = r.next;
    }

abbrev pub test_steps : ℕ → ℕ → ℕ → ℕ → ℕ
test_steps N code e b = cond (eqb code 4) (e + 1 + b) (N * (e + 2) + (N - 1) * (b + 1))

abbrev pub tested_of : ℕ → ℕ → ExprSummary → StmtSummary → StmtSummary
tested_of N code e b =
    record {
      steps = min (test_steps N code e.e b.steps) (2 ^ 32);
      error = option_or e.error b.error;
      statements = b.statements;
      terms = b.terms;
      levels = suc b.levels;
      next = b.next;
    }

-- The summary of a handler file.
abbrev pub summary_of : List ℕ → ℕ → Stmt → HandlerSummary
summary_of sizes at S =
    record { at = at; end = at + stmt_width S; statements = statements S; levels = stmt_levels S; steps = min (steps (product sizes) S) (2 ^ 32) }

-- What reading a handler file gives.
unfoldable pub handler_file : HandlerRead → Result HandlerFile FileFault
handler_file (handler sizes at S) = Ok (record { summary = summary_of sizes at S; head = head_of sizes; statements = statement_table at S })
handler_file (refused k place) = Err (fault_at k place)

-- What reading a handler file leaves in the buffer for the nodes of its expressions: after a fault all its words are 0.
unfoldable pub terms_after : HandlerRead → List ℕ → List ℕ
terms_after (handler sizes at S) entry = sets entry 0 (handler_terms 0 S)
terms_after (refused k place) entry = replicate (length entry) 0

-- The summary of the file, from that of its statement: 18, then 16.
abbrev pub fitting_of : ℕ → StmtSummary → Option ℕ → Result HandlerSummary FileFault
fitting_of at w (Some place) = Err (fault_at 16 place)
fitting_of at w None = Ok (record { at = at; end = w.next; statements = w.statements; levels = w.levels; steps = w.steps })

abbrev pub filled_of : ℕ → StmtSummary → Result (Unit {0}) ℕ → Result HandlerSummary FileFault
filled_of at w (Err place) = Err (fault_at 18 place)
filled_of at w (Ok _) = fitting_of at w w.error

abbrev pub handler_found : List ℕ → ℕ → StmtSummary → Result HandlerSummary FileFault
handler_found bytes at w = filled_of at w (fill_at bytes w.next)
