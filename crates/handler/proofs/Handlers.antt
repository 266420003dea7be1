-- What a handler file that was read says of its head, its statement and its kinds.
use Prim.Native.Nat.{ℕ, ◌+◌, ◌*◌, ◌≤◌, ◌<◌}
use mathlib.Core.Bool.{true≢false}
use mathlib.Core.List.{List}
use Rattle.std.specs.Prelude.{Option, Some, None, Result, Ok, Err, is_ok}
use mathlib.Core.Path.{◌≡◌, refl, sym, ap}
use native.Mathlib.Omega.{arith}
use lib.ListN.{length}
use Rattle.bits.specs.Fields.{fill_at}
use Rattle.bits.specs.Fields as fields
use Rattle.bits.specs.declared.FileFault.{FileFault}
use Rattle.bits.proofs.Places.{FaultIn, fault_at, fill_inside}
use Rattle.semantics.specs.Language.{Stmt, nil, assign, seq, par, if, while}
use Rattle.semantics.specs.Conditions.{target_of}
use Rattle.handler.specs.Header as head
use Rattle.handler.specs.declared.HandlerFile.{HandlerFile}
use Rattle.handler.specs.Statements.{StmtRead, whole, fault, whole_stmt}
use Rattle.handler.specs.Kinds.{stmt_width, stmt_kind_error}
use Rattle.handler.specs.Terms.{stmt_terms}
use Rattle.handler.specs.StatementTable.{statements, stmt_levels, statement_table}
use Rattle.handler.specs.Reading.{HandlerRead, handler, refused, on_kinds, on_handler_fill, on_stmt, on_head, read_handler}
use Rattle.handler.specs.Shapes.{summary_of, handler_file, terms_after}
use Rattle.handler.proofs.Heads.{head_in, head_read}
use Rattle.handler.proofs.TermTable.{ExprsFit, ExprsIn, exprs_stored}
use Rattle.handler.proofs.StmtFolds.{TargetsBelow, all_read, stmt_read}
use Rattle.handler.proofs.Fitting.{stmt_within}

-- What is known of a handler that was read.
pub record KnownHandler (bytes sizes : List ℕ) (at : ℕ) (S : Stmt) : Type 0 where
  pub head : head.head_at bytes ≡ head.declared sizes at
  pub starts : at ≡ 3 + 5 * length sizes
  pub read : whole_stmt bytes (length sizes) at ≡ whole S (statements S) (at + stmt_width S)
  pub inside : at + stmt_width S ≤ 8 * length bytes
  pub fits : stmt_kind_error at S ≡ None
  pub few : statements S ≤ 63
  pub high : stmt_levels S ≤ 16
  pub targets : TargetsBelow (length sizes) S
  pub terms : stmt_terms S ≤ 1953
  pub exprs : ExprsFit S

-- A file that is read is known, and a fault of it is in the file.
module _ (bytes : List ℕ) where
  abbrev pub KnownFile : HandlerRead → Type 0
  KnownFile (handler sizes at S) = KnownHandler bytes sizes at S
  KnownFile (refused k place) = FaultIn bytes 10 18 k place

  module _ (sizes : List ℕ) (at : ℕ) (begins : head.head_at bytes ≡ head.declared sizes at) where
    kinds_known : (S : Stmt) (after next : ℕ) → whole_stmt bytes (length sizes) at ≡ whole S after next → (o : Option ℕ) → stmt_kind_error at S ≡ o
        → KnownFile (on_kinds sizes at S o)
    unfolding whole_stmt
    kinds_known S after next read None fit =
        let known = stmt_read 17 bytes (length sizes) 0 at S after next read in
        let counted : after ≡ statements S = omega arith in
        record {
          head = begins;
          starts = (head_read bytes sizes at begins).starts;
          read = rw (← counted, ← known.ends) read;
          inside = omega arith;
          fits = fit;
          few = omega arith;
          high = omega arith;
          targets = known.targets;
          terms = omega arith;
          exprs = known.exprs;
        }
    kinds_known S after next read (Some place) fit =
        let known = stmt_read 17 bytes (length sizes) 0 at S after next read in
        let within = rw fit at (stmt_within at S) in
        fault_at bytes 10 18 16 refl place (omega arith)

    fill_known : (S : Stmt) (after next : ℕ) → whole_stmt bytes (length sizes) at ≡ whole S after next → (f : Result (Unit {0}) ℕ) → fill_at bytes next ≡ f
        → KnownFile (on_handler_fill sizes at S f)
    fill_known S after next read (Ok _) e = kinds_known S after next read (stmt_kind_error at S) refl
    fill_known S after next read (Err place) e = fault_at bytes 10 18 18 refl place (fill_inside bytes next place e)

    stmt_known : at ≤ 8 * length bytes → (x : StmtRead) → whole_stmt bytes (length sizes) at ≡ x → KnownFile (on_stmt bytes sizes at x)
    unfolding whole_stmt
    stmt_known inside (fault k place) read = rw read at (all_read 17 bytes (length sizes) 0 at) inside
    stmt_known inside (whole S after next) read = fill_known S after next read (fill_at bytes next) refl

  head_known : (h : head.HeadRead) → head.head_at bytes ≡ h → KnownFile (on_head bytes h)
  head_known (head.fault k place) e = rw e at (head_in bytes)
  head_known (head.declared sizes at) e = stmt_known sizes at e (rw e at (head_in bytes)).1 (whole_stmt bytes (length sizes) at) refl

  pub known_file : KnownFile (read_handler bytes)
  unfolding read_handler
  known_file = head_known (head.head_at bytes) refl

pub known_handler : (bytes sizes : List ℕ) (at : ℕ) (S : Stmt) → read_handler bytes ≡ handler sizes at S → KnownHandler bytes sizes at S
known_handler bytes sizes at S e = rw e at (known_file bytes)

-- A buffer of 1,953 words holds the expressions of the handler that was read.
pub handler_exprs : (bytes sizes : List ℕ) (at : ℕ) (S : Stmt) (entry : List ℕ) → read_handler bytes ≡ handler sizes at S → 1953 ≤ length entry
    → ExprsIn (terms_after (read_handler bytes) entry) 0 S
unfolding terms_after
handler_exprs bytes sizes at S entry read room =
    let known = known_handler bytes sizes at S read in
    rw read (exprs_stored entry S known.terms room known.exprs)

-- What reading a file gives says what was read.
pub found_refused : (r : HandlerRead) (f : FileFault) → handler_file r ≡ Err f → r ≡ refused f.number f.bit
unfolding handler_file
found_refused (handler sizes at S) f e = absurd (true≢false (ap is_ok e))
found_refused (refused k place) f e =
    let same : fields.fault_at k place ≡ f = cc in
    rw (← same)

pub record FoundHandler (r : HandlerRead) (file : HandlerFile) : Type 0 where
  pub sizes : List ℕ
  pub S : Stmt
  pub read : r ≡ handler sizes file.summary.at S
  pub summary : file.summary ≡ summary_of sizes file.summary.at S
  pub head : file.head ≡ head.head_of sizes
  pub table : file.statements ≡ statement_table file.summary.at S

pub found_handler : (r : HandlerRead) (file : HandlerFile) → handler_file r ≡ Ok file → FoundHandler r file
unfolding handler_file
found_handler (handler sizes at S) file e =
    let made : HandlerFile = record { summary = summary_of sizes at S; head = head.head_of sizes; statements = statement_table at S } in
    let same : made ≡ file = cc in
    rw (← same) (record { sizes = sizes; S = S; read = refl; summary = refl; head = refl; table = refl })
found_handler (refused k place) file e = absurd (true≢false (ap is_ok (sym e)))

-- The target of an assignment is below 4; that of any other statement is 0.
pub target_small : (count : ℕ) (S : Stmt) → count ≤ 4 → TargetsBelow count S → target_of S < 4
target_small count nil few below = omega arith
target_small count (assign v e) few below = omega arith
target_small count (seq l r) few below = omega arith
target_small count (par l r) few below = omega arith
target_small count (if e b) few below = omega arith
target_small count (while e b) few below = omega arith
