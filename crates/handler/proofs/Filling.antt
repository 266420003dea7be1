-- How the walks fill both tables: the word of an operation or a statement is stored before the words of its parts, between them or after
-- them, and the nodes of a statement's expressions one after the other.
use Prim.Native.Nat.{ℕ, suc, ◌+◌, ◌-◌, ◌<◌, ◌≤◌}
use mathlib.Core.List.{List, ◌∷◌, ◌++◌}
use mathlib.Core.Path.{◌≡◌, sym, ◌∙◌, refl, ap}
use mathlib.Core.Bool.{Bool, true, false, cond}
use native.Mathlib.Omega.{arith}
use native.Mathlib.Numerals.{add-one}
use borrow.Author.Tests.{eqb-true, eqb-false}
use lib.ListN.{length, set}
use lib.Dec.{eqb}
use lib.Seq.{sets}
use Rattle.std.specs.Prelude.{Ok, Err}
use Rattle.bits.specs.declared.FileFault.{FileFault}
use Rattle.semantics.specs.declared.Kind.{Kind}
use Rattle.semantics.specs.Language.{Expr, Stmt, seq, par, if, while}
use Rattle.handler.specs.declared.expressions.ExprHead.{ExprHead}
use Rattle.handler.specs.declared.expressions.ExprHead.TheVariants as head
use Rattle.handler.specs.Expressions.{expr_head, ExprRead, good, bad, joined, on_expr_head, expr_at, whole_expr}
use Rattle.handler.specs.Shapes.{expr_shape, stmt_shape}
use Rattle.handler.specs.Terms.{expr_nodes, term_word, first_word, term_words, TermsStored, stmt_terms, handler_terms, ExprsStored}
use Rattle.handler.specs.Refinement.{HeadFits, leaf_term}
use Rattle.handler.specs.declared.table.Statement.{Statement}
use Rattle.handler.specs.declared.StmtHead.TheVariants.{Nil, Assign, Pair, Test}
use Rattle.handler.specs.Statements.{stmt_head, StmtRead, whole, fault, on_assigned, on_right, stmt_at}
use Rattle.handler.specs.Kinds.{width, stmt_width}
use Rattle.handler.specs.StatementTable.{statements, statement_word, word_of, statement_words, StatementsStored}
use Rattle.handler.proofs.Stores.{two_filled, one_filled, both_filled}
use Rattle.handler.proofs.TermTable.{length_term_words, length_handler_terms}
use Rattle.handler.proofs.Folds.{expr_step, inner_step, childless, Headed, headed_as, expr_read}
use Rattle.handler.proofs.Shapes.{faulted, stmt_faulted}
use Rattle.handler.proofs.StatementTable.{length_statement_words}
use Rattle.handler.proofs.StmtFolds.{stmt_step, Marked, marked, whole_read, stmt_read}

-- The numbers of a node that was read fit the words of a table.
pub head_fits : (bytes : List ℕ) (count nodes at : ℕ) (h : ExprHead) → expr_head bytes count nodes at ≡ Ok h → HeadFits h
unfolding Headed
head_fits bytes count nodes at h e = by h (headed_as bytes count nodes at (Ok h) e)
  where
    by : (h : ExprHead) → Headed bytes count nodes at (Ok h) → HeadFits h
    by (head.Integer z next) p = omega (arith, p.2)
    by (head.Truth b next) p = tt
    by (head.Variable v next) p = omega (arith, p.3)
    by (head.Operation o next) p = tt

-- What reading an expression does to a table, whose first node is number `first`.
module _ (bytes : List ℕ) (count levels nodes at first : ℕ) (more : 0 < levels) where
  abbrev read : ExprRead
  read = expr_at levels bytes count nodes at

  abbrev operand : ℕ → ℕ → ExprRead
  operand = expr_at (levels - 1) bytes count

  pub leaf_filled : (h : ExprHead) → expr_head bytes count nodes at ≡ Ok h → ((o next : ℕ) → h ≡ head.Operation o next → ⊥) → (table₀ table₁ : List ℕ)
      → table₁ ≡ set table₀ (first + nodes) (term_word (leaf_term h)) → TermsStored table₀ table₁ (first + nodes) read
  unfolding first_word
  leaf_filled h e leaf table₀ table₁ own =
      rw (expr_step bytes count levels nodes at (Ok h) more e, childless h leaf nodes operand (λ _ place. bad 14 place)) (by h own)
    where
      by : (h : ExprHead) → table₁ ≡ set table₀ (first + nodes) (term_word (leaf_term h))
          → TermsStored table₀ table₁ (first + nodes) (on_expr_head (Ok h) nodes (λ _ place. bad 14 place))
      by (head.Integer z next) own = own
      by (head.Truth b next) own = own
      by (head.Variable v next) own = own
      by (head.Operation o next) own = tt

  pub expr_fault_filled : (wanted : Kind) (f : FileFault) (table₀ table₁ : List ℕ) → Err f ≡ expr_shape wanted at read
      → TermsStored table₀ table₁ (first + nodes) read
  expr_fault_filled wanted f table₀ table₁ e = rw (faulted wanted at read f (sym e)) tt

  pub operation_filled : (o next : ℕ) → expr_head bytes count nodes at ≡ Ok (head.Operation o next)
      → (l : Expr) (so_far behind : ℕ) → operand (nodes + 1) next ≡ good l so_far behind → (table₀ table₁ table₂ table₃ : List ℕ)
      → TermsStored table₀ table₁ (first + (nodes + 1)) (operand (nodes + 1) next)
      → table₂ ≡ set table₁ (first + nodes) (term_word (record { tag = 3; value = o; right = first + so_far }))
      → TermsStored table₂ table₃ (first + so_far) (operand so_far behind) → TermsStored table₀ table₃ (first + nodes) read
  unfolding first_word
  operation_filled o next e l so_far behind was table₀ table₁ table₂ table₃ begun own ended =
      rw (inner_step bytes count levels nodes at o next more e, was) (by (operand so_far behind) ended)
    where
      by : (x : ExprRead) → TermsStored table₂ table₃ (first + so_far) x → TermsStored table₀ table₃ (first + nodes) (joined o l x)
      by (bad k place) f = tt
      by (good r after end) f =
          let i = first + nodes in
          let left = expr_read (levels - 1) bytes count (nodes + 1) next l so_far behind was in
          let words = term_words (suc i) l in
          let long : first + so_far ≡ suc i + length words = omega (arith, left.added, length_term_words (suc i) l) in
          let counted : first + so_far ≡ suc i + expr_nodes l = omega (arith, left.added) in
          let word = term_word (record { tag = 3; value = o; right = first + so_far }) in
          let here : first + (nodes + 1) ≡ suc i = omega arith in
          two_filled table₀ table₁ table₂ table₃ i (first + so_far) word words (term_words (first + so_far) r) long (rw (was, here) at begun) own f ∙ rw counted

abbrev entry : ℕ → ℕ → ℕ → ℕ → ℕ → Statement
entry code target after expr bit = record { code = code; target = target; after = after; expr = expr; bit = bit }

-- The words of a statement, from the numbers that reading gives.
pair_words : (b : Bool) (code before at i so_far : ℕ) (l r : Stmt) → eqb code 2 ≡ b → 2 ≤ code → code < 4 → so_far ≡ suc before + statements l
    → statement_words before at i (cond b (seq l r) (par l r))
    ≡ statement_word (entry code 0 so_far 0 at) ∷ (statement_words (suc before) (at + 3) i l ++ statement_words so_far (at + 3 + stmt_width l) (i + stmt_terms l) r)
unfolding word_of
pair_words true code before at i so_far l r t least most counted =
    let is : code ≡ 2 = eqb-true code 2 t in
    rw (is, counted)
pair_words false code before at i so_far l r t least most counted =
    let other = eqb-false code 2 t in
    let is : code ≡ 3 = omega arith in
    rw (is, counted)

test_words : (t : Bool) (code before at i after : ℕ) (e : Expr) (b : Stmt) → eqb code 4 ≡ t → 4 ≤ code → code < 6 → after ≡ suc before + statements b
    → statement_words before at i (cond t (if e b) (while e b)) ≡ statement_word (entry code 0 after i at) ∷ statement_words (suc before) (at + 3 + width e) (i + expr_nodes e) b
unfolding word_of
test_words true code before at i after e b t least most counted =
    let is : code ≡ 4 = eqb-true code 4 t in
    rw (is, counted)
test_words false code before at i after e b t least most counted =
    let other = eqb-false code 4 t in
    let is : code ≡ 5 = omega arith in
    rw (is, counted)

-- The words of its expressions, from those of its parts.
pair_exprs : (t : Bool) (i : ℕ) (l r : Stmt) → handler_terms i l ++ handler_terms (i + stmt_terms l) r ≡ handler_terms i (cond t (seq l r) (par l r))
pair_exprs true i l r = refl
pair_exprs false i l r = refl

test_exprs : (t : Bool) (i : ℕ) (e : Expr) (b : Stmt) → term_words i e ++ handler_terms (i + expr_nodes e) b ≡ handler_terms i (cond t (if e b) (while e b))
test_exprs true i e b = refl
test_exprs false i e b = refl

-- What reading a statement does to both tables, where there are i expression nodes before it.
abbrev Stored : List ℕ → List ℕ → List ℕ → List ℕ → ℕ → ℕ → ℕ → StmtRead → Type 0
Stored table₀ table₁ exprs₀ exprs₁ before at i x = StatementsStored table₀ table₁ before at i x × ExprsStored exprs₀ exprs₁ i x

-- It follows from what reading its parts does.
module _ (bytes : List ℕ) (count levels before at i : ℕ) (more : 0 < levels) where
  abbrev here : StmtRead
  here = stmt_at levels bytes count before at

  abbrev below : ℕ → ℕ → StmtRead
  below = stmt_at (levels - 1) bytes count

  pub fault_filled : (N : ℕ) (f : FileFault) (table₀ table₁ exprs₀ exprs₁ : List ℕ) → Err f ≡ stmt_shape N i at here
      → Stored table₀ table₁ exprs₀ exprs₁ before at i here
  fault_filled N f table₀ table₁ exprs₀ exprs₁ e = rw (stmt_faulted N i at here f (sym e)) (tt, tt)

  pub nil_filled : (next : ℕ) → stmt_head bytes count (levels - 1) before at ≡ Ok (Nil next) → (table₀ table₁ exprs : List ℕ)
      → table₁ ≡ set table₀ before (statement_word (entry 0 0 (before + 1) 0 at)) → Stored table₀ table₁ exprs exprs before at i here
  unfolding word_of
  nil_filled next head table₀ table₁ exprs own = rw (stmt_step bytes count levels before at _ more head) (rw (add-one before) at own, refl)

  pub assign_filled : (v next : ℕ) → stmt_head bytes count (levels - 1) before at ≡ Ok (Assign v next) → (table₀ table₁ exprs₀ exprs₁ : List ℕ)
      → table₁ ≡ set table₀ before (statement_word (entry 1 v (before + 1) i at)) → TermsStored exprs₀ exprs₁ i (whole_expr bytes count next)
      → Stored table₀ table₁ exprs₀ exprs₁ before at i here
  unfolding word_of
  assign_filled v next head table₀ table₁ exprs₀ exprs₁ own = rw (stmt_step bytes count levels before at _ more head) (by (whole_expr bytes count next))
    where
      by : (x : ExprRead) → TermsStored exprs₀ exprs₁ i x → Stored table₀ table₁ exprs₀ exprs₁ before at i (on_assigned v (suc before) x)
      by (bad k place) f = (tt, tt)
      by (good e nodes behind) f = (own ∙ rw (add-one before), f)

  pub pair_filled : (code next : ℕ) → stmt_head bytes count (levels - 1) before at ≡ Ok (Pair code next)
      → (l : Stmt) (so_far behind : ℕ) → below (before + 1) next ≡ whole l so_far behind → (table₀ table₁ table₂ table₃ exprs₀ exprs₁ exprs₂ : List ℕ)
      → Stored table₀ table₁ exprs₀ exprs₁ (before + 1) next i (below (before + 1) next)
      → table₂ ≡ set table₁ before (statement_word (entry code 0 so_far 0 at))
      → Stored table₂ table₃ exprs₁ exprs₂ so_far behind (i + stmt_terms l) (below so_far behind) → Stored table₀ table₃ exprs₀ exprs₂ before at i here
  unfolding Marked
  pair_filled code next head l so_far behind was table₀ table₁ table₂ table₃ exprs₀ exprs₁ exprs₂ first own second =
      rw (stmt_step bytes count levels before at _ more head, ← add-one before, was) (by (below so_far behind) second)
    where
      by : (x : StmtRead) → Stored table₂ table₃ exprs₁ exprs₂ so_far behind (i + stmt_terms l) x
          → Stored table₀ table₃ exprs₀ exprs₂ before at i (on_right code l x)
      by (fault k place) f = (tt, tt)
      by (whole r after end) f =
          let known = marked bytes count (levels - 1) before at _ head in
          let left = stmt_read (levels - 1) bytes count (before + 1) next l so_far behind was in
          let words = statement_words (suc before) (at + 3) i l in
          let long : so_far ≡ suc before + length words = omega (arith, length_statement_words (suc before) (at + 3) i l) in
          let begun = rw (was, add-one before, known.2) at first in
          let ended : table₃ ≡ sets table₂ so_far (statement_words so_far (at + 3 + stmt_width l) (i + stmt_terms l) r) = rw (left.ends, known.2) at f.0 in (
            two_filled table₀ table₁ table₂ table₃ before so_far _ words _ long begun.0 own ended
                ∙ ap (sets table₀ before) (sym (pair_words (eqb code 2) code before at i so_far l r refl known.3 known.4 (omega arith))),
            both_filled exprs₀ exprs₁ exprs₂ i (i + stmt_terms l) (handler_terms i l) _ (omega (arith, length_handler_terms i l)) begun.1 f.1
                ∙ ap (sets exprs₀ i) (pair_exprs (eqb code 2) i l r),
          )

  pub test_filled : (code next : ℕ) → stmt_head bytes count (levels - 1) before at ≡ Ok (Test code next)
      → (e : Expr) (nodes behind : ℕ) → whole_expr bytes count next ≡ good e nodes behind
      → (b : Stmt) (after end : ℕ) → below (before + 1) behind ≡ whole b after end → (table₀ table₁ table₂ exprs₀ exprs₁ exprs₂ : List ℕ)
      → TermsStored exprs₀ exprs₁ i (whole_expr bytes count next)
      → Stored table₀ table₁ exprs₁ exprs₂ (before + 1) behind (i + nodes) (below (before + 1) behind)
      → table₂ ≡ set table₁ before (statement_word (entry code 0 after i at)) → Stored table₀ table₂ exprs₀ exprs₂ before at i here
  unfolding Marked
  test_filled code next head e nodes behind test b after end was table₀ table₁ table₂ exprs₀ exprs₁ exprs₂ first second own =
      let known = marked bytes count (levels - 1) before at _ head in
      let body = stmt_read (levels - 1) bytes count (before + 1) behind b after end was in
      let tested = whole_read bytes count next e nodes behind test in
      let words = statement_words (suc before) (at + 3 + width e) (i + expr_nodes e) b in
      let stored = rw (was, add-one before, tested.ends, tested.counted, known.2) at second in
      rw (stmt_step bytes count levels before at _ more head, ← add-one before, test, was) (
        one_filled table₀ table₁ table₂ before _ words stored.0 own
            ∙ ap (sets table₀ before) (sym (test_words (eqb code 4) code before at i after e b refl known.3 known.4 (omega arith))),
        both_filled exprs₀ exprs₁ exprs₂ i (i + expr_nodes e) (term_words i e) _ (omega (arith, length_term_words i e)) (rw test at first) stored.1
            ∙ ap (sets exprs₀ i) (test_exprs (eqb code 4) i e b),
      )
