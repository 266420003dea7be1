-- The head says which case of `on_head` holds, N is 1 to the capacity, and the statement begins within 23 bits. The table that the walk
-- fills is that of the handler.
use Prim.Native.Nat.{ℕ, ◌≤◌}
use mathlib.Core.List.{List}
use mathlib.Core.Path.{◌≡◌, sym, ap, ◌∙◌, subst}
use native.Mathlib.Omega.{arith}
use lib.ListN.{length, replicate}
use borrow.Author.Rules.{rules}
use Rattle.std.specs.Prelude.{Ok, Err}
use Rattle.bits.specs.declared.FileFault.{FileFault}
use Rattle.semantics.specs.States.{product}
use Rattle.semantics.specs.Language.{Stmt}
use Rattle.handler.specs.declared.StmtSummary.{StmtSummary}
use Rattle.handler.specs.declared.HandlerSummary.{HandlerSummary}
use Rattle.handler.specs.Header.{declared, head_at, head_of, head_file}
use Rattle.handler.specs.Statements.{StmtRead, whole, stmt_at, whole_stmt}
use Rattle.handler.specs.Terms.{ExprsStored}
use Rattle.handler.specs.StatementTable.{statements, StatementsStored}
use Rattle.handler.specs.Reading.{refused, on_stmt, read_handler}
use Rattle.handler.specs.Shapes.{stmt_shape, handler_found, handler_file, stmt_summary}
use Rattle.handler.specs.Refinement.{NodesStored}
use Rattle.handler.proofs.Heads.{found_head, found_fault, head_read}
use Rattle.handler.proofs.StmtFolds.{stmt_read}
use Rattle.handler.proofs.StatementTable.{table_made}
use Rattle.handler.proofs.Shapes.{stmt_shaped, stmt_faulted, Ended, found_made}
use Rattle.handler.proofs.reading.read_file.Goals as goal

-- A fault of the head is that of the file.
head_fault : (bytes : List ℕ) (f : FileFault) → Err f ≡ head_file (head_at bytes) → read_handler bytes ≡ refused f.number f.bit
unfolding read_handler
head_fault bytes f e = rw (found_fault (head_at bytes) f e)

-- If a head was read, the file is what is read after it: all 17 levels of the statement.
module _ (bytes sizes : List ℕ) (at : ℕ) (begins : head_at bytes ≡ declared sizes at) where
  abbrev walked : StmtRead
  walked = stmt_at 17 bytes (length sizes) 0 at

  after_head : read_handler bytes ≡ on_stmt bytes sizes at walked
  unfolding read_handler whole_stmt
  after_head = rw begins

  stmt_fault : (g : FileFault) → stmt_shape (product sizes) 0 at walked ≡ Err g → read_handler bytes ≡ refused g.number g.bit
  stmt_fault g e = after_head ∙ rw (stmt_faulted (product sizes) 0 at walked g e)

  -- If a statement was read, and w is its summary.
  module _ (S : Stmt) (w : StmtSummary) (was : walked ≡ whole S w.statements w.next) (is : w ≡ stmt_summary (product sizes) 0 at S w.statements w.next) where
    ended : Ended sizes at S (read_handler bytes) (handler_found bytes at w)
    unfolding whole_stmt
    ended =
        rw (after_head, was)
        (subst (λ x. Ended sizes at S (on_stmt bytes sizes at (whole S w.statements w.next)) (handler_found bytes at x)) (sym is)
        (found_made bytes sizes at S w.statements w.next was))

    end_fault : (g : FileFault) → handler_found bytes at w ≡ Err g → read_handler bytes ≡ refused g.number g.bit
    end_fault g p = rw p at ended

    -- If the file ends as it must.
    module _ (x : HandlerSummary) (p : handler_found bytes at w ≡ Ok x) where
      known : Ended sizes at S (read_handler bytes) (Ok x)
      known = rw p at ended

      file_made : (table : List ℕ) → StatementsStored (replicate 63 0) table 0 at 0 walked
          → Ok (record { summary = x; head = head_of sizes; statements = table }) ≡ handler_file (read_handler bytes)
      unfolding handler_file
      file_made table filled =
          let few : statements S ≤ 63 = omega (arith, stmt_read 17 bytes (length sizes) 0 at S w.statements w.next was) in
          let words = rw was at filled in
          rw (known.0, known.1, words, table_made at S few)

      nodes_made : (entry exit : List ℕ) → ExprsStored entry exit 0 walked → NodesStored entry exit (read_handler bytes)
      nodes_made entry exit stored = rw known.0 (rw was at stored)

pub returns-in_err-head : goal.returns-in_err-head
unfolding handler_file
returns-in_err-head c =
    let e = head_fault _ _ (sym c.in_err-head.was ∙ c.read_head.ensures) in
    record { file = rw e (search rules); nodes = rw e tt }

pub stmt_walk-requires : goal.stmt_walk-requires
unfolding head_of
stmt_walk-requires c =
    let f = found_head _ c.in_ok-head.field-0 (sym c.in_ok-head.was ∙ c.read_head.ensures) in
    omega (arith, ap (λ h. h.states) f.is, head_read _ _ _ f.read)

pub returns-in_err-stmt : goal.returns-in_err-stmt
unfolding handler_file head_of
returns-in_err-stmt c =
    let f = found_head _ c.in_ok-head.field-0 (sym c.in_ok-head.was ∙ c.read_head.ensures) in
    let walked = rw f.is at (sym c.stmt_walk.ensures.value ∙ c.in_err-stmt.was) in
    let e = stmt_fault _ f.sizes _ f.read _ walked in
    record { file = rw e (search rules); nodes = rw e tt }

pub returns-in_err-summary : goal.returns-in_err-summary
unfolding handler_file head_of
returns-in_err-summary c =
    let f = found_head _ c.in_ok-head.field-0 (sym c.in_ok-head.was ∙ c.read_head.ensures) in
    let s = stmt_shaped _ _ _ _ _ (rw f.is at (sym c.stmt_walk.ensures.value ∙ c.in_ok-stmt.was)) in
    let e = end_fault _ f.sizes _ f.read s.tree _ s.was s.is _ (sym c.found_of.ensures ∙ c.in_err-summary.was) in
    record { file = rw e (search rules); nodes = rw e tt }

pub returns : goal.returns
unfolding head_of
returns c =
    let f = found_head _ c.in_ok-head.field-0 (sym c.in_ok-head.was ∙ c.read_head.ensures) in
    let s = stmt_shaped _ _ _ _ _ (rw f.is at (sym c.stmt_walk.ensures.value ∙ c.in_ok-stmt.was)) in
    let found = sym c.found_of.ensures ∙ c.in_ok-summary.was in
    record {
      file = rw f.is (file_made _ f.sizes _ f.read s.tree _ s.was s.is _ found _ (rw f.is at c.stmt_walk.ensures.statements_stored));
      nodes = nodes_made _ f.sizes _ f.read s.tree _ s.was s.is _ found _ _ (rw f.is at c.stmt_walk.ensures.exprs_stored);
    }
