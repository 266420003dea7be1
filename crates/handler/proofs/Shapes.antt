-- Laws of the shapes of expressions and statements: what a shape says of what was read, and the shape of a whole from those of its parts.
-- Capping the parts of a step number does not change the capped whole.
use Prim.Native.Nat.{ℕ, ◌+◌, ◌-◌, ◌≤◌, ◌<◌, zero, suc, ◌*◌, ◌^◌, min}
use mathlib.Core.Bool.{Bool, true, false, cond, true≢false}
use mathlib.Core.List.{List}
use Rattle.std.specs.Prelude.{Option, Some, None, Result, Ok, Err, is_ok}
use Rattle.std.specs.Option.{option_or}
use mathlib.Core.Path.{◌≡◌, refl, sym, ap, ap₂, ◌∙◌}
use native.Mathlib.Omega.{arith}
use native.Mathlib.Nat.{suc-mul}
use native.Mathlib.Numerals.{add-one}
use borrow.Author.Tests.{leb-true, leb-false}
use lib.Dec.{leb, eqb}
use lib.ListN.{length}
use Rattle.bits.specs.Fields.{fault_at, fill_at}
use Rattle.bits.specs.declared.FileFault.{FileFault}
use Rattle.semantics.specs.declared.Kind.{Kind}
use Rattle.semantics.specs.Language.{Expr, op, row_of, same_kind, Stmt, assign}
use Rattle.semantics.specs.StepNumber.{E, steps}
use Rattle.semantics.specs.declared.Kind.TheVariants.{Integer, Truth}
use Rattle.semantics.specs.States.{product}
use Rattle.handler.specs.declared.expressions.ExprSummary.{ExprSummary}
use Rattle.handler.specs.declared.expressions.ExprHead.TheVariants.{Operation}
use Rattle.handler.specs.Expressions.{expr_head, ExprRead, good, bad, expr_at, whole_expr}
use Rattle.handler.specs.Kinds.{width, stmt_width, stmt_kind_error}
use Rattle.handler.specs.Shapes.{expr_summary, expr_shape, stmt_summary, stmt_shape, assigned_of, pair_of, tested_of, fitting_of, filled_of, handler_found, summary_of}
use Rattle.handler.specs.declared.StmtSummary.{StmtSummary}
use Rattle.handler.specs.declared.HandlerSummary.{HandlerSummary}
use Rattle.handler.specs.declared.StmtHead.TheVariants.{Assign, Pair, Test}
use Rattle.handler.specs.Statements.{stmt_head, StmtRead, whole, fault, paired, tested, stmt_at, whole_stmt}
use Rattle.handler.specs.Terms.{expr_nodes, stmt_terms}
use Rattle.handler.specs.StatementTable.{statements, stmt_levels}
use Rattle.handler.specs.Reading.{HandlerRead, handler, refused, on_kinds, on_handler_fill, on_stmt}
use Rattle.handler.proofs.Folds.{inner_step, Headed, headed_as, expr_read}
use Rattle.handler.proofs.Heads.{by_test}
use Rattle.handler.proofs.StmtFolds.{stmt_step, Marked, marked, whole_read, ReadStmt, stmt_read}

-- Expressions.

-- What a summary says of the expression that was read.
pub record Shaped (wanted : Kind) (at : ℕ) (x : ExprRead) (w : ExprSummary) : Type 0 where
  pub tree : Expr
  pub was : x ≡ good tree w.nodes w.next
  pub is : w ≡ expr_summary wanted at tree w.nodes w.next

pub shaped : (wanted : Kind) (at : ℕ) (x : ExprRead) (w : ExprSummary) → expr_shape wanted at x ≡ Ok w → Shaped wanted at x w
unfolding expr_shape
shaped wanted at (good t n i) w p =
    let same : expr_summary wanted at t n i ≡ w = cc in
    rw (← same) (record { tree = t; was = refl; is = refl })
shaped wanted at (bad k place) w p = absurd (true≢false (ap is_ok (sym p)))

pub faulted : (wanted : Kind) (at : ℕ) (x : ExprRead) (f : FileFault) → expr_shape wanted at x ≡ Err f → x ≡ bad f.number f.bit
unfolding expr_shape
faulted wanted at (good t n i) f p = absurd (true≢false (ap is_ok p))
faulted wanted at (bad j i) f p =
    let same : fault_at j i ≡ f = cc in
    rw (← same)

-- Its numbers are those of at most 31 nodes.
pub record FewNodes (w : ExprSummary) : Type 0 where
  pub steps : w.e ≤ 31
  pub room : w.nodes ≤ 31

pub shape_small : (levels : ℕ) (bytes : List ℕ) (count nodes at : ℕ) (wanted : Kind) (w : ExprSummary)
    → expr_shape wanted at (expr_at levels bytes count nodes at) ≡ Ok w → FewNodes w
shape_small levels bytes count nodes at wanted w p =
    let s = shaped wanted at _ w p in
    let read = expr_read levels bytes count nodes at s.tree w.nodes w.next s.was in
    let reads : w.e ≡ E s.tree = ap (λ x. x.e) s.is in
    record { steps = omega arith; room = omega arith }

-- The summary of an operation, from its operands'.
abbrev pub op_summary : Bool → ℕ → ExprSummary → ExprSummary → ExprSummary
op_summary fits at l r =
    record {
      error = cond fits (option_or l.error r.error) (Some at);
      e = l.e + r.e + 1;
      nodes = r.nodes;
      next = r.next;
    }

op_made : (wanted a b result : Kind) (at o next : ℕ) (l r : Expr) (so_far behind last end : ℕ)
    → row_of o ≡ Some (a, b, result) → next ≡ at + 5 → behind ≡ next + width l
    → op_summary (same_kind result wanted) at (expr_summary a next l so_far behind) (expr_summary b behind r last end)
    ≡ expr_summary wanted at (op o l r) last end
op_made wanted a b result at o next l r so_far behind last end row placed ends =
    rw (ends, placed, row)

-- An operation, from what its head says and what its operands' walks answer.
module _ (bytes : List ℕ) (count levels nodes at o next : ℕ) (more : 0 < levels) (head : expr_head bytes count nodes at ≡ Ok (Operation o next)) where
  module _ (wanted a b result : Kind) (row : row_of o ≡ Some (a, b, result)) where
    abbrev first : ExprRead
    first = expr_at (levels - 1) bytes count (nodes + 1) next

    abbrev second : ℕ → ℕ → ExprRead
    second = expr_at (levels - 1) bytes count

    abbrev both : Result ExprSummary FileFault
    both = expr_shape wanted at (expr_at levels bytes count nodes at)

    pub left_operand_fault : (f : FileFault) → expr_shape a next first ≡ Err f → Err f ≡ both
    unfolding expr_shape
    left_operand_fault f p = rw (inner_step bytes count levels nodes at o next more head, faulted a next first f p)

    module _ (l : ExprSummary) (p : expr_shape a next first ≡ Ok l) where
      pub right_operand_fault : (f : FileFault) → expr_shape b l.next (second l.nodes l.next) ≡ Err f → Err f ≡ both
      unfolding expr_shape
      right_operand_fault f q =
          rw (
            inner_step bytes count levels nodes at o next more head,
            (shaped a next first l p).was,
            faulted b l.next (second l.nodes l.next) f q,
          )

      pub op_shape : (r : ExprSummary) → expr_shape b l.next (second l.nodes l.next) ≡ Ok r
          → ◌≡◌ {A = Result ExprSummary FileFault} (Ok (op_summary (same_kind result wanted) at l r)) both
      unfolding expr_shape Headed
      op_shape r q =
          let left = shaped a next first l p in
          let right = shaped b l.next (second l.nodes l.next) r q in
          let placed = headed_as bytes count nodes at _ head in
          let ends = (expr_read (levels - 1) bytes count (nodes + 1) next left.tree l.nodes l.next left.was).ends in
          rw (inner_step bytes count levels nodes at o next more head, left.was, right.was)
          (ap₂ {C = Result ExprSummary FileFault} (λ x y. Ok (op_summary (same_kind result wanted) at x y)) left.is right.is
          ∙ ap Ok (op_made wanted a b result at o next left.tree right.tree l.nodes l.next r.nodes r.next row placed.1 ends))

-- Capping a part that counts y times does not change the capped sum.
pub cap_part : (x y b : ℕ) → min (x + y * (min b (2 ^ 32) + 1)) (2 ^ 32) ≡ min (x + y * (b + 1)) (2 ^ 32)
cap_part x y b = by (leb b (2 ^ 32)) refl y
  where
    by : (t : Bool) → leb b (2 ^ 32) ≡ t → (y : ℕ) → min (x + y * (min b (2 ^ 32) + 1)) (2 ^ 32) ≡ min (x + y * (b + 1)) (2 ^ 32)
    by true t y =
        let same : min b (2 ^ 32) ≡ b = omega (arith, leb-true b (2 ^ 32) t) in
        rw same
    by false t zero = omega arith
    by false t (suc y) =
        omega (arith, leb-false b (2 ^ 32) t, suc-mul y (min b (2 ^ 32) + 1), suc-mul y (b + 1))

-- What a summary says of the statement that was read.
pub record StmtShaped (N i at : ℕ) (x : StmtRead) (w : StmtSummary) : Type 0 where
  pub tree : Stmt
  pub was : x ≡ whole tree w.statements w.next
  pub is : w ≡ stmt_summary N i at tree w.statements w.next

pub stmt_shaped : (N i at : ℕ) (x : StmtRead) (w : StmtSummary) → stmt_shape N i at x ≡ Ok w → StmtShaped N i at x w
unfolding stmt_shape
stmt_shaped N i at (whole S a j) w p =
    let same : stmt_summary N i at S a j ≡ w = cc in
    rw (← same) (record { tree = S; was = refl; is = refl })
stmt_shaped N i at (fault k place) w p = absurd (true≢false (ap is_ok (sym p)))

pub stmt_faulted : (N i at : ℕ) (x : StmtRead) (f : FileFault) → stmt_shape N i at x ≡ Err f → x ≡ fault f.number f.bit
unfolding stmt_shape
stmt_faulted N i at (whole S a n) f p = absurd (true≢false (ap is_ok p))
stmt_faulted N i at (fault j n) f p =
    let same : fault_at j n ≡ f = cc in
    rw (← same)

-- It has fewer levels than could be read.
pub shape_high : (levels : ℕ) (bytes : List ℕ) (count before at N i : ℕ) (w : StmtSummary)
    → stmt_shape N i at (stmt_at levels bytes count before at) ≡ Ok w → w.levels < levels
shape_high levels bytes count before at N i w p =
    let s = stmt_shaped N i at _ w p in
    let same : w.levels ≡ stmt_levels s.tree = ap (λ x. x.levels) s.is in
    omega (arith, (stmt_read levels bytes count before at s.tree w.statements w.next s.was).high)

-- An assignment whose expression was read.
assigned_made : (N i at v next after nodes behind : ℕ) (e : Expr) → next ≡ at + 5 → nodes ≡ expr_nodes e
    → ◌≡◌ {A = Result StmtSummary FileFault} (Ok (assigned_of after i (expr_summary Integer next e nodes behind))) (stmt_shape N i at (whole (assign v e) after behind))
unfolding stmt_shape
assigned_made N i at v next after nodes behind e placed counted = rw (counted, placed)

-- A sequence or parallel whose sides were read.
pair_made : (N i at code next so_far behind after end : ℕ) (l r : Stmt) → next ≡ at + 3 → behind ≡ next + stmt_width l
    → ◌≡◌ {A = Result StmtSummary FileFault} (Ok (pair_of (stmt_summary N i next l so_far behind) (stmt_summary N (i + stmt_terms l) behind r after end)))
    (stmt_shape N i at (whole (paired code l r) after end))
unfolding stmt_shape
pair_made N i at code next so_far behind after end l r placed ends =
    let sum : i + stmt_terms l + stmt_terms r ≡ i + (stmt_terms l + stmt_terms r) = omega arith in
    let capped : min (min (steps N l) (2 ^ 32) + min (steps N r) (2 ^ 32) + 1) (2 ^ 32) ≡ min (steps N l + steps N r + 1) (2 ^ 32) = omega arith in
    let read : Result StmtSummary FileFault = Ok (pair_of (stmt_summary N i next l so_far behind) (stmt_summary N (i + stmt_terms l) behind r after end)) in
    by_test (λ S. read ≡ stmt_shape N i at (whole S after end)) (eqb code 2) _ _ (λ e. rw (ends, placed, sum, capped)) (λ e. rw (ends, placed, sum, capped))

-- An if or while whose test and body were read.
tested_made : (N i at code next nodes behind after end : ℕ) (e : Expr) (b : Stmt) → next ≡ at + 3 → behind ≡ next + width e → nodes ≡ expr_nodes e
    → ◌≡◌ {A = Result StmtSummary FileFault} (Ok (tested_of N code (expr_summary Truth next e nodes behind) (stmt_summary N (i + nodes) behind b after end)))
    (stmt_shape N i at (whole (tested code e b) after end))
unfolding stmt_shape
tested_made N i at code next nodes behind after end e b placed ends counted =
    let sum : i + expr_nodes e + stmt_terms b ≡ i + (expr_nodes e + stmt_terms b) = omega arith in
    let capped : min (E e + 1 + min (steps N b) (2 ^ 32)) (2 ^ 32) ≡ min (E e + 1 + steps N b) (2 ^ 32) = omega arith in
    let read : Result StmtSummary FileFault = Ok (tested_of N code (expr_summary Truth next e nodes behind) (stmt_summary N (i + nodes) behind b after end)) in
    by_test (λ S. read ≡ stmt_shape N i at (whole S after end)) (eqb code 4) _ _ (λ t. rw (t, ends, counted, placed, sum, capped))
    (λ t. rw (t, ends, counted, placed, sum, cap_part (N * (E e + 2)) (N - 1) (steps N b)))

-- What a walk answers at each head, from what the walks of the parts answer.
module _ (bytes : List ℕ) (count levels before at N i : ℕ) (more : 0 < levels) where
  abbrev here : Result StmtSummary FileFault
  here = stmt_shape N i at (stmt_at levels bytes count before at)

  abbrev below : ℕ → ℕ → StmtRead
  below = stmt_at (levels - 1) bytes count

  module _ (v next : ℕ) (head : stmt_head bytes count (levels - 1) before at ≡ Ok (Assign v next)) where
    pub assign_fault : (f : FileFault) → expr_shape Integer next (whole_expr bytes count next) ≡ Err f → Err f ≡ here
    unfolding stmt_shape
    assign_fault f p = rw (stmt_step bytes count levels before at _ more head, faulted Integer next (whole_expr bytes count next) f p)

    pub assign_shape : (e : ExprSummary) → expr_shape Integer next (whole_expr bytes count next) ≡ Ok e → Ok (assigned_of (before + 1) i e) ≡ here
    unfolding Marked
    assign_shape e p =
        let read = shaped Integer next (whole_expr bytes count next) e p in
        rw (stmt_step bytes count levels before at _ more head, add-one before, read.was)
        (ap {B = Result StmtSummary FileFault} (λ x. Ok (assigned_of (suc before) i x)) read.is
        ∙ assigned_made N i at v next (suc before) e.nodes e.next read.tree (marked bytes count (levels - 1) before at _ head).2
        (whole_read bytes count next read.tree e.nodes e.next read.was).counted)

  module _ (code next : ℕ) where
    module _ (head : stmt_head bytes count (levels - 1) before at ≡ Ok (Pair code next)) where
      pub left_side_fault : (f : FileFault) → stmt_shape N i next (below (before + 1) next) ≡ Err f → Err f ≡ here
      unfolding stmt_shape
      left_side_fault f p =
          rw (
            stmt_step bytes count levels before at _ more head,
            ← add-one before,
            stmt_faulted N i next (below (before + 1) next) f p,
          )

      module _ (l : StmtSummary) (p : stmt_shape N i next (below (before + 1) next) ≡ Ok l) where
        pub right_side_fault : (f : FileFault) → stmt_shape N l.terms l.next (below l.statements l.next) ≡ Err f → Err f ≡ here
        unfolding stmt_shape
        right_side_fault f q =
            rw (
              stmt_step bytes count levels before at _ more head,
              ← add-one before,
              (stmt_shaped N i next (below (before + 1) next) l p).was,
              stmt_faulted N l.terms l.next (below l.statements l.next) f q,
            )

        pub pair_shape : (r : StmtSummary) → stmt_shape N l.terms l.next (below l.statements l.next) ≡ Ok r → Ok (pair_of l r) ≡ here
        unfolding Marked
        pair_shape r q =
            let left = stmt_shaped N i next (below (before + 1) next) l p in
            let right = stmt_shaped N l.terms l.next (below l.statements l.next) r q in
            let terms = ap (λ x. x.terms) left.is in
            rw (stmt_step bytes count levels before at _ more head, ← add-one before, left.was, right.was)
            (ap₂ {C = Result StmtSummary FileFault} (λ x y. Ok (pair_of x y)) left.is
            (right.is ∙ ap (λ t. stmt_summary N t l.next right.tree r.statements r.next) terms)
            ∙ pair_made N i at code next l.statements l.next r.statements r.next left.tree right.tree (marked bytes count (levels - 1) before at _ head).2
            (stmt_read (levels - 1) bytes count (before + 1) next left.tree l.statements l.next left.was).ends)

    module _ (head : stmt_head bytes count (levels - 1) before at ≡ Ok (Test code next)) where
      pub test_fault : (f : FileFault) → expr_shape Truth next (whole_expr bytes count next) ≡ Err f → Err f ≡ here
      unfolding stmt_shape
      test_fault f p =
          rw (stmt_step bytes count levels before at _ more head, faulted Truth next (whole_expr bytes count next) f p)

      module _ (e : ExprSummary) (p : expr_shape Truth next (whole_expr bytes count next) ≡ Ok e) where
        pub body_fault : (f : FileFault) → stmt_shape N (i + e.nodes) e.next (below (before + 1) e.next) ≡ Err f
            → Err f ≡ here
        unfolding stmt_shape
        body_fault f q =
            rw (
              stmt_step bytes count levels before at _ more head,
              ← add-one before,
              (shaped Truth next (whole_expr bytes count next) e p).was,
              stmt_faulted N (i + e.nodes) e.next (below (before + 1) e.next) f q,
            )

        pub test_shape : (b : StmtSummary) → stmt_shape N (i + e.nodes) e.next (below (before + 1) e.next) ≡ Ok b
            → Ok (tested_of N code e b) ≡ here
        unfolding Marked
        test_shape b q =
            let test = shaped Truth next (whole_expr bytes count next) e p in
            let known = whole_read bytes count next test.tree e.nodes e.next test.was in
            let body = stmt_shaped N (i + e.nodes) e.next (below (before + 1) e.next) b q in
            rw (stmt_step bytes count levels before at _ more head, ← add-one before, test.was, body.was)
            (ap₂ {C = Result StmtSummary FileFault} (λ x y. Ok (tested_of N code x y)) test.is body.is
            ∙ tested_made N i at code next e.nodes e.next b.statements b.next test.tree body.tree
            (marked bytes count (levels - 1) before at _ head).2
            known.ends known.counted)

-- What the summary of a file, or a fault after its statement, says of the file.
abbrev pub Ended : List ℕ → ℕ → Stmt → HandlerRead → Result HandlerSummary FileFault → Type 0
Ended sizes at S r (Ok summary) = (r ≡ handler sizes at S) × (summary ≡ summary_of sizes at S)
Ended sizes at S r (Err f) = r ≡ refused f.number f.bit

pub found_made : (bytes sizes : List ℕ) (at : ℕ) (S : Stmt) (after next : ℕ) → whole_stmt bytes (length sizes) at ≡ whole S after next
    → Ended sizes at S (on_stmt bytes sizes at (whole S after next)) (handler_found bytes at (stmt_summary (product sizes) 0 at S after next))
unfolding whole_stmt
found_made bytes sizes at S after next read = by (fill_at bytes next)
  where
    w : StmtSummary
    w = stmt_summary (product sizes) 0 at S after next

    known : ReadStmt bytes 17 (length sizes) 0 at S after next
    known = stmt_read 17 bytes (length sizes) 0 at S after next read

    counted : after ≡ statements S
    counted = omega (arith, known.counted)

    kinds : (o : Option ℕ) → Ended sizes at S (on_kinds sizes at S o) (fitting_of at w o)
    kinds None = (refl, rw (counted, known.ends))
    kinds (Some place) = refl

    by : (f : Result (Unit {0}) ℕ) → Ended sizes at S (on_handler_fill sizes at S f) (filled_of at w f)
    by (Ok _) = kinds (stmt_kind_error at S)
    by (Err place) = refl
