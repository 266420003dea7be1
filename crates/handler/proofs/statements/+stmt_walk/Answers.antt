-- Each arm is one law of Shapes and one of Filling, applied to what the head and the walks of the parts ensure.
use Prim.Native.Nat.{ℕ, ◌+◌, ◌*◌, ◌≤◌, ◌<◌}
use mathlib.Core.List.{List}
use mathlib.Core.Path.{◌≡◌, sym, ap, ◌∙◌}
use native.Mathlib.Nat.{pos_of_ne-zero}
use native.Mathlib.Numerals.{add-one}
use native.Mathlib.Omega.{arith}
use borrow.Author.Rules.{rules}
use Rattle.std.specs.Prelude.{Ok}
use Rattle.semantics.specs.declared.Kind.TheVariants.{Truth}
use Rattle.handler.specs.declared.StmtHead.TheVariants.{Pair, Test}
use Rattle.handler.specs.declared.StmtSummary.{StmtSummary}
use Rattle.handler.specs.declared.expressions.ExprSummary.{ExprSummary}
use Rattle.handler.specs.Expressions.{whole_expr}
use Rattle.handler.specs.Statements.{stmt_head, stmt_at}
use Rattle.handler.specs.Shapes.{expr_shape, stmt_shape}
use Rattle.handler.proofs.Shapes.{shaped, shape_small, stmt_shaped, stmt_faulted, shape_high, assign_fault, assign_shape, left_side_fault, right_side_fault, pair_shape, test_fault, body_fault, test_shape}
use Rattle.handler.proofs.StmtFolds.{stmt_step, Marked, marked, whole_read, stmt_read}
use Rattle.handler.proofs.Filling.{nil_filled, assign_filled, pair_filled, test_filled}
use Rattle.handler.proofs.statements.+stmt_walk.Goals as goal

-- What the head of a pair and that of a test say: there was room for the statement, and where its first part begins.
pair_room : (bytes : List ℕ) (count below before at code next : ℕ) → stmt_head bytes count below before at ≡ Ok (Pair code next)
    → (before < 63) × (next ≡ at + 3)
unfolding Marked
pair_room bytes count below before at code next e = let m = marked _ _ _ _ _ _ e in (m.1, m.2)

test_room : (bytes : List ℕ) (count below before at code next : ℕ) → stmt_head bytes count below before at ≡ Ok (Test code next)
    → (before < 63) × (next ≡ at + 3)
unfolding Marked
test_room bytes count below before at code next e = let m = marked _ _ _ _ _ _ e in (m.1, m.2)

-- There is room for the right side: what the left side leaves.
left_room : (levels : ℕ) (bytes : List ℕ) (count before at N i next : ℕ) (l : StmtSummary) → before < 63 → next ≡ at + 3
    → i ≤ 31 * before → at ≤ 23 + 315 * before → stmt_shape N i next (stmt_at levels bytes count (before + 1) next) ≡ Ok l
    → (l.statements ≤ 63) × (l.terms ≤ 31 * l.statements) × (l.next ≤ 23 + 315 * l.statements)
left_room levels bytes count before at N i next l room placed few begun is =
    let left = stmt_shaped _ _ _ _ _ is in
    let known = stmt_read _ _ _ _ _ _ _ _ left.was in
    let terms = ap (λ x. x.terms) left.is in
    (known.room, omega (arith, known, terms), omega (arith, known))

-- There is room for the body: what the test leaves.
body_room : (bytes : List ℕ) (count before at i next : ℕ) (e : ExprSummary) → before < 63 → next ≡ at + 3 → i ≤ 31 * before
    → at ≤ 23 + 315 * before → expr_shape Truth next (whole_expr bytes count next) ≡ Ok e
    → (i + e.nodes ≤ 31 * (before + 1)) × (e.next ≤ 23 + 315 * (before + 1))
body_room bytes count before at i next e room placed few begun is =
    let known = whole_read _ _ _ _ _ _ (shaped _ _ _ _ is).was in
    (omega (arith, known.few), omega (arith, known.ends, known.short))

pub returns-then-levels-eq0 : goal.returns-then-levels-eq0
unfolding stmt_at stmt_shape
returns-then-levels-eq0 t c =
    record {
      value = rw c.if-levels-eq0.true;
      statements_stored = rw c.if-levels-eq0.true tt;
      exprs_stored = rw c.if-levels-eq0.true tt;
    }

pub returns-in_err-head : goal.returns-in_err-head
unfolding stmt_shape
returns-in_err-head t c =
    let e = stmt_step _ _ _ _ _ _ (pos_of_ne-zero c.if-levels-eq0.false) (sym c.stmt_head_at.ensures ∙ c.in_err-head.was) in
    record { value = rw e (search rules); statements_stored = rw e tt; exprs_stored = rw e tt }

pub store_statement-requires : goal.store_statement-requires
unfolding Marked
store_statement-requires t c = omega (arith, marked _ _ _ _ _ _ (sym c.stmt_head_at.ensures ∙ c.in_ok-head.was ∙ ap Ok c.in-Nil.is))

pub store_statement-requires-in-Assign : goal.store_statement-requires-in-Assign
unfolding Marked
store_statement-requires-in-Assign t c = omega (arith, marked _ _ _ _ _ _ (sym c.stmt_head_at.ensures ∙ c.in_ok-head.was ∙ ap Ok c.in-Assign.is))

pub returns-in_err-expr-in-Assign : goal.returns-in_err-expr-in-Assign
returns-in_err-expr-in-Assign t c =
    let head = sym c.stmt_head_at.ensures ∙ c.in_ok-head.was ∙ ap Ok c.in-Assign.is in
    let e = assign_fault _ _ _ _ _ c.args.n c.args.terms (pos_of_ne-zero c.if-levels-eq0.false) _ _ head _ (sym c.expr_shape.ensures.value ∙ c.in_err-expr-in-Assign.was) in
    let read = stmt_faulted _ _ _ _ _ (sym e) in
    record { value = rw (← e) (search rules); statements_stored = rw read tt; exprs_stored = rw read tt }

pub assigned_of-requires : goal.assigned_of-requires
unfolding whole_expr
assigned_of-requires t c =
    (omega arith, (shape_small 32 _ _ _ _ _ _ (sym c.expr_shape.ensures.value ∙ c.in_ok-expr-in-Assign.was)).room)

pub stmt_walk-requires : goal.stmt_walk-requires
stmt_walk-requires t c =
    omega (arith, pos_of_ne-zero c.if-levels-eq0.false, pair_room _ _ _ _ _ _ _ (sym c.stmt_head_at.ensures ∙ c.in_ok-head.was ∙ ap Ok c.in-Pair.is))

pub returns-in_err-left-in-Pair : goal.returns-in_err-left-in-Pair
returns-in_err-left-in-Pair t c =
    let head = sym c.stmt_head_at.ensures ∙ c.in_ok-head.was ∙ ap Ok c.in-Pair.is in
    let e = left_side_fault _ _ _ _ _ _ _ (pos_of_ne-zero c.if-levels-eq0.false) _ _ head _ (sym c.stmt_walk.ensures.value ∙ c.in_err-left-in-Pair.was) in
    let read = stmt_faulted _ _ _ _ _ (sym e) in
    record { value = rw (← e) (search rules); statements_stored = rw read tt; exprs_stored = rw read tt }

pub store_statement-requires-in-Pair : goal.store_statement-requires-in-Pair
store_statement-requires-in-Pair t c = omega (arith, pair_room _ _ _ _ _ _ _ (sym c.stmt_head_at.ensures ∙ c.in_ok-head.was ∙ ap Ok c.in-Pair.is))

pub stmt_walk-requires-in-Pair : goal.stmt_walk-requires-in-Pair
stmt_walk-requires-in-Pair t c =
    let room = pair_room _ _ _ _ _ _ _ (sym c.stmt_head_at.ensures ∙ c.in_ok-head.was ∙ ap Ok c.in-Pair.is) in
    let left = left_room _ _ _ _ _ _ _ _ _ room.0 room.1 (omega arith) (omega arith) (sym c.stmt_walk.ensures.value ∙ c.in_ok-left-in-Pair.was) in
    omega (arith, pos_of_ne-zero c.if-levels-eq0.false, left)

pub returns-in_err-right-in-Pair : goal.returns-in_err-right-in-Pair
returns-in_err-right-in-Pair t c =
    let head = sym c.stmt_head_at.ensures ∙ c.in_ok-head.was ∙ ap Ok c.in-Pair.is in
    let left = sym c.stmt_walk.ensures.value ∙ c.in_ok-left-in-Pair.was in
    let e =
    right_side_fault _ _ _ _ _ _ _ (pos_of_ne-zero c.if-levels-eq0.false) _ _ head _ left _
    (sym c.stmt_walk-in-Pair.ensures.value ∙ c.in_err-right-in-Pair.was) in
    let read = stmt_faulted _ _ _ _ _ (sym e) in
    record { value = rw (← e) (search rules); statements_stored = rw read tt; exprs_stored = rw read tt }

-- A part has fewer levels than were left for it, so there is room for one more.
pub pair_of-requires : goal.pair_of-requires
pair_of-requires t c = (
  omega (arith, shape_high _ _ _ _ _ _ _ _ (sym c.stmt_walk.ensures.value ∙ c.in_ok-left-in-Pair.was)),
  omega (arith, shape_high _ _ _ _ _ _ _ _ (sym c.stmt_walk-in-Pair.ensures.value ∙ c.in_ok-right-in-Pair.was)),
)

pub returns-in_err-test-in-Test : goal.returns-in_err-test-in-Test
returns-in_err-test-in-Test t c =
    let head = sym c.stmt_head_at.ensures ∙ c.in_ok-head.was ∙ ap Ok c.in-Test.is in
    let e = test_fault _ _ _ _ _ c.args.n c.args.terms (pos_of_ne-zero c.if-levels-eq0.false) _ _ head _ (sym c.expr_shape-in-Test.ensures.value ∙ c.in_err-test-in-Test.was) in
    let read = stmt_faulted _ _ _ _ _ (sym e) in
    record { value = rw (← e) (search rules); statements_stored = rw read tt; exprs_stored = rw read tt }

pub overflow_add-inner : goal.overflow_add-inner
overflow_add-inner t c =
    let room = test_room _ _ _ _ _ _ _ (sym c.stmt_head_at.ensures ∙ c.in_ok-head.was ∙ ap Ok c.in-Test.is) in
    omega (arith, body_room _ _ _ _ c.args.terms _ _ room.0 room.1 (omega arith) (omega arith) (sym c.expr_shape-in-Test.ensures.value ∙ c.in_ok-test-in-Test.was))

pub stmt_walk-requires-in-Test : goal.stmt_walk-requires-in-Test
stmt_walk-requires-in-Test t c =
    let room = test_room _ _ _ _ _ _ _ (sym c.stmt_head_at.ensures ∙ c.in_ok-head.was ∙ ap Ok c.in-Test.is) in
    let body =
    body_room _ _ _ _ c.args.terms _ _ room.0 room.1 (omega arith) (omega arith) (sym c.expr_shape-in-Test.ensures.value ∙ c.in_ok-test-in-Test.was) in
    omega (arith, pos_of_ne-zero c.if-levels-eq0.false, room, body)

pub returns-in_err-body-in-Test : goal.returns-in_err-body-in-Test
returns-in_err-body-in-Test t c =
    let head = sym c.stmt_head_at.ensures ∙ c.in_ok-head.was ∙ ap Ok c.in-Test.is in
    let test = sym c.expr_shape-in-Test.ensures.value ∙ c.in_ok-test-in-Test.was in
    let e =
    body_fault _ _ _ _ _ _ _ (pos_of_ne-zero c.if-levels-eq0.false) _ _ head _ test _
    (sym c.stmt_walk-in-Test.ensures.value ∙ c.in_err-body-in-Test.was) in
    let read = stmt_faulted _ _ _ _ _ (sym e) in
    record { value = rw (← e) (search rules); statements_stored = rw read tt; exprs_stored = rw read tt }

pub store_statement-requires-in-Test : goal.store_statement-requires-in-Test
store_statement-requires-in-Test t c =
    omega (arith, test_room _ _ _ _ _ _ _ (sym c.stmt_head_at.ensures ∙ c.in_ok-head.was ∙ ap Ok c.in-Test.is))

pub tested_of-requires : goal.tested_of-requires
tested_of-requires t c =
    omega (arith, shape_high _ _ _ _ _ _ _ _ (sym c.stmt_walk-in-Test.ensures.value ∙ c.in_ok-body-in-Test.was))

pub returns-in-Nil : goal.returns-in-Nil
unfolding stmt_shape
returns-in-Nil t c =
    let more = pos_of_ne-zero c.if-levels-eq0.false in
    let head = sym c.stmt_head_at.ensures ∙ c.in_ok-head.was ∙ ap Ok c.in-Nil.is in
    let terms : c.args.terms + 0 ≡ c.args.terms = omega arith in
    let stored =
    nil_filled _ _ _ _ _ _ more _ head c.args.table.now c.store_statement.new.table c.args.exprs.now c.store_statement.ensures in
    record {
      value = rw (c.nil_of.ensures, stmt_step _ _ _ _ _ _ more head, add-one, terms);
      statements_stored = stored.0;
      exprs_stored = stored.1;
    }

pub returns-in_ok-expr-in-Assign : goal.returns-in_ok-expr-in-Assign
returns-in_ok-expr-in-Assign t c =
    let more = pos_of_ne-zero c.if-levels-eq0.false in
    let head = sym c.stmt_head_at.ensures ∙ c.in_ok-head.was ∙ ap Ok c.in-Assign.is in
    let assigned = c.expr_shape in
    let stored =
    assign_filled _ _ _ _ _ _ more _ _ head c.args.table.now c.store_statement-in-Assign.new.table c.args.exprs.now assigned.new.table
    c.store_statement-in-Assign.ensures assigned.ensures.terms_stored in
    record {
      value = rw c.assigned_of.ensures (assign_shape _ _ _ _ _ _ _ more _ _ head _ (sym assigned.ensures.value ∙ c.in_ok-expr-in-Assign.was));
      statements_stored = stored.0;
      exprs_stored = stored.1;
    }

pub returns-in_ok-right-in-Pair : goal.returns-in_ok-right-in-Pair
returns-in_ok-right-in-Pair t c =
    let more = pos_of_ne-zero c.if-levels-eq0.false in
    let head = sym c.stmt_head_at.ensures ∙ c.in_ok-head.was ∙ ap Ok c.in-Pair.is in
    let first = c.stmt_walk in
    let second = c.stmt_walk-in-Pair in
    let is = sym c.stmt_walk.ensures.value ∙ c.in_ok-left-in-Pair.was in
    let left = stmt_shaped _ _ _ _ _ is in
    let terms = ap (λ x. x.terms) left.is in
    let stored =
    pair_filled _ _ _ _ _ _ more _ _ head left.tree _ _ left.was c.args.table.now first.new.table c.store_statement-in-Pair.new.table second.new.table
    c.args.exprs.now first.new.exprs second.new.exprs (first.ensures.statements_stored, first.ensures.exprs_stored)
    c.store_statement-in-Pair.ensures (rw terms at second.ensures.statements_stored, rw terms at second.ensures.exprs_stored) in
    record {
      value = rw c.pair_of.ensures (pair_shape _ _ _ _ _ _ _ more _ _ head _ is _ (sym second.ensures.value ∙ c.in_ok-right-in-Pair.was));
      statements_stored = stored.0;
      exprs_stored = stored.1;
    }

pub returns-in_ok-body-in-Test : goal.returns-in_ok-body-in-Test
returns-in_ok-body-in-Test t c =
    let more = pos_of_ne-zero c.if-levels-eq0.false in
    let head = sym c.stmt_head_at.ensures ∙ c.in_ok-head.was ∙ ap Ok c.in-Test.is in
    let second = c.stmt_walk-in-Test in
    let test_is = sym c.expr_shape-in-Test.ensures.value ∙ c.in_ok-test-in-Test.was in
    let body_is = sym second.ensures.value ∙ c.in_ok-body-in-Test.was in
    let test = shaped _ _ _ _ test_is in
    let body = stmt_shaped _ _ _ _ _ body_is in
    let stored =
    test_filled _ _ _ _ _ _ more _ _ head test.tree _ _ test.was body.tree _ _ body.was c.args.table.now second.new.table
    c.store_statement-in-Test.new.table c.args.exprs.now c.expr_shape-in-Test.new.table second.new.exprs c.expr_shape-in-Test.ensures.terms_stored
    (second.ensures.statements_stored, second.ensures.exprs_stored) c.store_statement-in-Test.ensures in
    record {
      value = rw c.tested_of.ensures (test_shape _ _ _ _ _ _ _ more _ _ head _ test_is _ body_is);
      statements_stored = stored.0;
      exprs_stored = stored.1;
    }
