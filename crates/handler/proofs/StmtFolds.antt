-- Laws of reading statements: one level, what a head says of its place, and what is known of a statement that was read.
use Prim.Native.Nat.{ℕ, zero, suc, ◌+◌, ◌-◌, ◌*◌, ◌≤◌, ◌<◌}
use mathlib.Core.Bool.{◌||◌}
use mathlib.Core.List.{List}
use mathlib.Core.Path.{◌≡◌, refl}
use native.Mathlib.Omega.{arith}
use borrow.Author.Tests.{leb-false, ltb-true, ltb-false, eqb-false}
use lib.Dec.{leb, ltb, eqb}
use lib.ListN.{length}
use Rattle.std.specs.Prelude.{Result, Ok, Err}
use Rattle.bits.specs.declared.FileFault.{FileFault}
use Rattle.bits.proofs.Places.{FaultIn, fault_at, fault_missing}
use Rattle.semantics.specs.Language.{Expr, Stmt, nil, assign, seq, par, if, while}
use Rattle.handler.specs.declared.StmtHead.{StmtHead}
use Rattle.handler.specs.declared.StmtHead.TheVariants.{Nil, Assign, Pair, Test}
use Rattle.handler.specs.Expressions.{ExprRead, good, bad, whole_expr}
use Rattle.handler.specs.Statements.{target_head, code_head, mark_head, stmt_head, StmtRead, whole, fault, on_assigned, on_body, on_test, on_right, on_left_side, on_stmt_head, stmt_at}
use Rattle.handler.specs.Kinds.{width, stmt_width}
use Rattle.handler.specs.Terms.{expr_nodes, stmt_terms}
use Rattle.handler.specs.StatementTable.{statements, stmt_levels}
use Rattle.handler.proofs.TermTable.{ExprFits, ExprsFit}
use Rattle.handler.proofs.Heads.{neither, by_test, by_field_or}
use Rattle.handler.proofs.Folds.{expr_read, all_read as expressions}

-- One level of reading, with `levels - 1` below it as in the code.
pub stmt_step : (bytes : List ℕ) (count levels before at : ℕ) (head : Result StmtHead FileFault) → 0 < levels
    → stmt_head bytes count (levels - 1) before at ≡ head
    → stmt_at levels bytes count before at ≡ on_stmt_head head (whole_expr bytes count) before (stmt_at (levels - 1) bytes count)
unfolding stmt_at
stmt_step bytes count zero before at head more e = absurd (omega arith)
stmt_step bytes count (suc levels) before at head more e =
    let less : suc levels - 1 ≡ levels = omega arith in
    let here : stmt_head bytes count levels before at ≡ head = rw less at e in
    rw (here, less)

-- What is known of a statement's head: there was room for the statement, where the head ends, that an assigned variable exists, and
-- that the head is in the file. A fault is in the file if the statement begins there.
unfoldable pub Marked : List ℕ → ℕ → ℕ → ℕ → ℕ → Result StmtHead FileFault → Type 0
Marked bytes count below before at (Ok (Nil next)) = (0 < below) × (before < 63) × (next ≡ at + 3) × (next ≤ 8 * length bytes)
Marked bytes count below before at (Ok (Assign v next)) =
    (0 < below) × (before < 63) × (next ≡ at + 5) × (v < count) × (v < 4) × (next ≤ 8 * length bytes)
Marked bytes count below before at (Ok (Pair code next)) =
    (0 < below) × (before < 63) × (next ≡ at + 3) × (2 ≤ code) × (code < 4) × (next ≤ 8 * length bytes)
Marked bytes count below before at (Ok (Test code next)) =
    (0 < below) × (before < 63) × (next ≡ at + 3) × (4 ≤ code) × (code < 6) × (next ≤ 8 * length bytes)
Marked bytes count below before at (Err f) = at ≤ 8 * length bytes → FaultIn bytes 10 18 f.number f.bit

module _ (bytes : List ℕ) (count below before at : ℕ) where
  abbrev Here : Result StmtHead FileFault → Type 0
  Here = Marked bytes count below before at

  on_code : 0 < below → before < 63 → (code next : ℕ) → next ≡ at + 3 → next ≤ 8 * length bytes → Here (code_head bytes count at code next)
  unfolding Marked code_head target_head
  on_code deep room code next moved inside =
      by_test Here (eqb code 0) _ _ (λ e. omega arith) (λ some.
      by_test Here (eqb code 1) _ _
      (λ e. by_field_or bytes Here next 2 10 (target_head count next) (λ here. fault_missing bytes 10 18 10 refl) (λ v after t.
      by_test Here (ltb v count) _ _ (λ e. omega (arith, ltb-true v count e)) (λ e here. fault_at bytes 10 18 15 refl next inside))) (λ more.
      by_test Here (ltb code 4) _ _
      (λ e. let zero = eqb-false code 0 some in let one = eqb-false code 1 more in omega (arith, ltb-true code 4 e)) (λ most.
      by_test Here (ltb code 6) _ _ (λ e. omega (arith, ltb-true code 6 e, ltb-false code 4 most)) (λ e. fault_at bytes 10 18 14 refl at))))

  pub marked : (head : Result StmtHead FileFault) → stmt_head bytes count below before at ≡ head → Here head
  unfolding Marked stmt_head mark_head
  marked head e =
      rw e at (by_field_or bytes Here at 3 10 (mark_head bytes count (eqb below 0 || leb 63 before) at) (λ here. fault_missing bytes 10 18 10 refl) (λ code next t.
      by_test Here (eqb below 0 || leb 63 before) _ _ (λ e. fault_at bytes 10 18 17 refl at) (λ e.
      let few = neither (eqb below 0) (leb 63 before) e in
      let some = eqb-false below 0 few.0 in
      on_code (omega arith) (leb-false 63 before few.1) code next t.moved (omega arith))))

-- Where a whole expression ends. It has at most 31 nodes of 10 bits, its numbers fit the words of a table, and it is in the file. A fault
-- is in the file if the expression begins there.
pub record ReadExpr (bytes : List ℕ) (at : ℕ) (e : Expr) (nodes next : ℕ) : Type 0 where
  pub ends : next ≡ at + width e
  pub short : width e ≤ 310
  pub counted : nodes ≡ expr_nodes e
  pub few : nodes ≤ 31
  pub fits : ExprFits e
  pub inside : next ≤ 8 * length bytes

module _ (bytes : List ℕ) (count at : ℕ) where
  pub whole_read : (e : Expr) (nodes next : ℕ) → whole_expr bytes count at ≡ good e nodes next → ReadExpr bytes at e nodes next
  unfolding whole_expr
  whole_read e nodes next p =
      let known = expr_read 32 bytes count 0 at e nodes next p in
      record { ends = known.ends; short = omega arith; counted = omega arith; few = known.room; fits = known.fits; inside = known.inside }

  whole_fault : (k place : ℕ) → whole_expr bytes count at ≡ bad k place → at ≤ 8 * length bytes → FaultIn bytes 10 18 k place
  unfolding whole_expr
  whole_fault k place p = rw p at (expressions 32 bytes count 0 at)

-- The variables that a statement assigns are below a count.
abbrev pub TargetsBelow : ℕ → Stmt → Type 0
TargetsBelow count nil = Unit {0}
TargetsBelow count (assign v e) = v < count
TargetsBelow count (seq l r) = TargetsBelow count l × TargetsBelow count r
TargetsBelow count (par l r) = TargetsBelow count l × TargetsBelow count r
TargetsBelow count (if e b) = TargetsBelow count b
TargetsBelow count (while e b) = TargetsBelow count b

-- What is known of a statement that was read: where it ends, that it counts among at most 63, that it has fewer levels than could
-- be read, how long it is: a code and a variable of 5 bits, and an expression of at most 31 nodes of 10 bits, that the numbers of
-- its expressions fit the words of a table, and that it is in the file.
pub record ReadStmt (bytes : List ℕ) (levels count before at : ℕ) (S : Stmt) (after next : ℕ) : Type 0 where
  pub ends : next ≡ at + stmt_width S
  pub counted : after ≡ before + statements S
  pub room : after ≤ 63
  pub high : stmt_levels S < levels
  pub short : stmt_width S ≤ 315 * statements S
  pub terms : stmt_terms S ≤ 31 * statements S
  pub inside : next ≤ 8 * length bytes
  pub targets : TargetsBelow count S
  pub exprs : ExprsFit S

abbrev pub AllRead : List ℕ → ℕ → ℕ → ℕ → ℕ → StmtRead → Type 0
AllRead bytes levels count before at (whole S after next) = ReadStmt bytes levels count before at S after next
AllRead bytes levels count before at (fault k place) = at ≤ 8 * length bytes → FaultIn bytes 10 18 k place

-- One level: the parts that are read below it are known.
module _ (bytes : List ℕ) (levels count before at : ℕ) where
  abbrev Known : StmtRead → Type 0
  Known = AllRead bytes (suc levels) count before at

  -- The numbers of a statement, and what its parts say of their variables and expressions.
  made : (S : Stmt) (after next : ℕ) → (next ≡ at + stmt_width S) × (after ≡ before + statements S) × (after ≤ 63) × (stmt_levels S < suc levels)
      × (stmt_width S ≤ 315 * statements S) × (stmt_terms S ≤ 31 * statements S) × (next ≤ 8 * length bytes)
      → TargetsBelow count S → ExprsFit S → ReadStmt bytes (suc levels) count before at S after next
  made S after next n targets exprs =
      record { ends = n.0; counted = n.1; room = n.2; high = n.3; short = n.4; terms = n.5; inside = n.6; targets = targets; exprs = exprs }

  right : (code next : ℕ) → next ≡ at + 3 → (l : Stmt) (so_far behind : ℕ) → ReadStmt bytes levels count (suc before) next l so_far behind → (x : StmtRead)
      → AllRead bytes levels count so_far behind x → Known (on_right code l x)
  right code next placed l so_far behind first (fault k place) known = λ here. known first.inside
  right code next placed l so_far behind first (whole r after end) known =
      by_test (λ S. Known (whole S after end)) (eqb code 2) _ _
      (λ e. made (seq l r) after end (omega arith) (first.targets, known.targets) (first.exprs, known.exprs))
      (λ e. made (par l r) after end (omega arith) (first.targets, known.targets) (first.exprs, known.exprs))

  body : (code next nodes behind : ℕ) → next ≡ at + 3 → (e : Expr) → ReadExpr bytes next e nodes behind → (x : StmtRead)
      → AllRead bytes levels count (suc before) behind x → Known (on_body code e x)
  body code next nodes behind placed e first (fault k place) known = λ here. known first.inside
  body code next nodes behind placed e first (whole b after end) known =
      by_test (λ S. Known (whole S after end)) (eqb code 4) _ _
      (λ t. made (if e b) after end (omega arith) known.targets (omega arith, first.fits, known.exprs))
      (λ t. made (while e b) after end (omega arith) known.targets (omega arith, first.fits, known.exprs))

  assigned : (v next : ℕ) → Marked bytes count levels before at (Ok (Assign v next)) → (x : ExprRead) → whole_expr bytes count next ≡ x
      → Known (on_assigned v (suc before) x)
  unfolding Marked
  assigned v next p (bad k place) read = λ here. whole_fault bytes count next k place read p.5
  assigned v next p (good e nodes behind) read =
      let known = whole_read bytes count next e nodes behind read in
      made (assign v e) (suc before) behind (omega arith) p.3 (omega arith, known.fits)

  module _ (stmt : ℕ → ℕ → StmtRead) (later : (n i : ℕ) → AllRead bytes levels count n i (stmt n i)) where
    left : (code next : ℕ) → next ≡ at + 3 → next ≤ 8 * length bytes → (x : StmtRead) → AllRead bytes levels count (suc before) next x
        → Known (on_left_side code x stmt)
    left code next placed inside (fault k place) known = λ here. known inside
    left code next placed inside (whole l so_far behind) known =
        right code next placed l so_far behind known (stmt so_far behind) (later so_far behind)

    test : (code next : ℕ) → next ≡ at + 3 → next ≤ 8 * length bytes → (x : ExprRead) → whole_expr bytes count next ≡ x
        → Known (on_test code (suc before) x stmt)
    test code next placed inside (bad k place) read = λ here. whole_fault bytes count next k place read inside
    test code next placed inside (good e nodes behind) read =
        body code next nodes behind placed e (whole_read bytes count next e nodes behind read) (stmt (suc before) behind) (later (suc before) behind)

    level : (h : Result StmtHead FileFault) → Marked bytes count levels before at h → Known (on_stmt_head h (whole_expr bytes count) before stmt)
    unfolding Marked
    level (Ok (Nil next)) p = made nil (suc before) next (omega arith) tt tt
    level (Ok (Assign v next)) p = assigned v next p (whole_expr bytes count next) refl
    level (Ok (Pair code next)) p = left code next p.2 p.5 (stmt (suc before) next) (later (suc before) next)
    level (Ok (Test code next)) p = test code next p.2 p.5 (whole_expr bytes count next) refl
    level (Err f) p = p

pub all_read : (levels : ℕ) (bytes : List ℕ) (count before at : ℕ) → AllRead bytes levels count before at (stmt_at levels bytes count before at)
unfolding stmt_at
all_read zero bytes count before at = fault_at bytes 10 18 17 refl at
all_read (suc levels) bytes count before at =
    level bytes levels count before at (stmt_at levels bytes count) (all_read levels bytes count) (stmt_head bytes count levels before at)
    (marked bytes count levels before at _ refl)

pub stmt_read : (levels : ℕ) (bytes : List ℕ) (count before at : ℕ) (S : Stmt) (after next : ℕ)
    → stmt_at levels bytes count before at ≡ whole S after next → ReadStmt bytes levels count before at S after next
stmt_read levels bytes count before at S after next p = rw p at (all_read levels bytes count before at)
