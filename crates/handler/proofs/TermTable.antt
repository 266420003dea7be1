-- Laws of the table of expression nodes: a word gives its node back, and a table that holds the words of an expression from number i
-- on gives the expression back.
use Prim.Native.Nat.{ℕ, zero, suc, ◌+◌, ◌-◌, ◌*◌, ◌/◌, ◌%◌, ◌≤◌, ◌<◌}
use mathlib.Core.Bool.{true, false}
use mathlib.Core.List.{List, ◌++◌}
use mathlib.Core.Path.{◌≡◌, refl, ap, ◌∙◌}
use native.Mathlib.Omega.{arith}
use borrow.Author.Tests.{lt-ltb, le-ltb}
use lib.IntN.{ℤ, pos, negsuc}
use lib.ListN.{length, get_or, drop, length-append}
use lib.Seq.{sets, sets-eq}
use lib.Signed.{mag}
use Rattle.semantics.specs.Language.{Val, int, truth, Expr, lit, var, op, Stmt, nil, assign, seq, par, if, while}
use Rattle.handler.specs.declared.terms.Term.{Term}
use Rattle.handler.specs.Terms.{bits16, signed16, expr_nodes, expr_term, term_word, term_of, term_in, first_word, term_words, stmt_terms, handler_terms, expr_from, expr_in}
use Rattle.handler.proofs.Stores.{first_held, later_held, both_held}

-- The fields of a word.
word_fields : (tag value right : ℕ) → tag < 4 → value < 65536
    → let word = tag + 4 * (value + 65536 * right) in (word % 4 ≡ tag) × (word / 4 % 65536 ≡ value) × (word / 262144 ≡ right)
word_fields tag value right t v = (omega arith, omega arith, omega arith)

term_back : (x : Term) → x.tag < 4 → x.value < 65536 → term_of (term_word x) ≡ x
unfolding term_word term_of
term_back x t v = let f = word_fields x.tag x.value x.right t v in rw (f.0, f.1, f.2)

-- An integer of 16 bits.
pub bits_small : (z : ℤ) → mag z < 32768 → bits16 z < 65536
unfolding bits16
bits_small (pos n) h = omega arith
bits_small (negsuc n) h = omega arith

signed_back : (z : ℤ) → mag z < 32768 → signed16 (bits16 z) ≡ z
unfolding bits16 signed16
signed_back (pos n) h = rw (lt-ltb n 32768 h)
signed_back (negsuc n) h =
    let back : 65535 - (65535 - n) ≡ n = omega arith in
    rw (le-ltb (65535 - n) 32768 (omega arith), back)

-- The numbers of an expression fit their fields, as those of an expression of a file do.
abbrev pub ValFits : Val → Type 0
ValFits (int z) = mag z < 32768
ValFits (truth b) = Unit {0}

abbrev pub ExprFits : Expr → Type 0
ExprFits (lit v) = ValFits v
ExprFits (var v) = v < 65536
ExprFits (op o l r) = (o < 65536) × ExprFits l × ExprFits r

pub length_term_words : (i : ℕ) (e : Expr) → length (term_words i e) ≡ expr_nodes e
length_term_words i (lit v) = refl
length_term_words i (var v) = refl
length_term_words i (op o l r) =
    simp length-append (omega (arith, length_term_words (suc i) l, length_term_words (suc i + expr_nodes l) r))

-- A table holds the words of an expression whose first node is number i.
pub record TermsIn (table : List ℕ) (i : ℕ) (e : Expr) : Type 0 where
  pub rest : List ℕ
  pub is : drop i table ≡ term_words i e ++ rest

module _ (table : List ℕ) where
  operands_held : (i o : ℕ) (l r : Expr) → TermsIn table i (op o l r) → TermsIn table (suc i) l × TermsIn table (suc i + expr_nodes l) r
  operands_held i o l r h =
      let second = term_words (suc i + expr_nodes l) r in
      let held = both_held table (suc i) (expr_nodes l) (term_words (suc i) l) second h.rest (length_term_words (suc i) l) (later_held table i _ _ h.is) in
      (record { rest = second ++ h.rest; is = held.0 }, record { rest = h.rest; is = held.1 })

  -- The first node of an expression.
  own_word : (i : ℕ) (e : Expr) → ExprFits e → (rest : List ℕ) → term_of (get_or (term_words i e ++ rest) 0 0) ≡ expr_term i e
  unfolding first_word
  own_word i (lit (int z)) fits rest = term_back (expr_term i (lit (int z))) (omega arith) (bits_small z fits)
  own_word i (lit (truth true)) fits rest = term_back (expr_term i (lit (truth true))) (omega arith) (omega arith)
  own_word i (lit (truth false)) fits rest = term_back (expr_term i (lit (truth false))) (omega arith) (omega arith)
  own_word i (var v) fits rest = term_back (expr_term i (var v)) (omega arith) fits
  own_word i (op o l r) fits rest = term_back (expr_term i (op o l r)) (omega arith) fits.0

  term_held : (i : ℕ) (e : Expr) → ExprFits e → TermsIn table i e → term_in table i ≡ expr_term i e
  unfolding term_in
  term_held i e fits h = ap term_of (first_held table i _ h.is) ∙ own_word i e fits h.rest

  expr_from_lem : (levels i : ℕ) (e : Expr) → expr_nodes e ≤ levels → ExprFits e → TermsIn table i e → expr_from levels table i ≡ e
  unfolding expr_from
  expr_from_lem zero i (lit v) few fits h = absurd (omega arith)
  expr_from_lem zero i (var v) few fits h = absurd (omega arith)
  expr_from_lem zero i (op o l r) few fits h = absurd (omega arith)
  expr_from_lem (suc levels) i (lit (int z)) few fits h = rw (term_held i (lit (int z)) fits h, signed_back z fits)
  expr_from_lem (suc levels) i (lit (truth true)) few fits h = rw (term_held i (lit (truth true)) fits h)
  expr_from_lem (suc levels) i (lit (truth false)) few fits h = rw (term_held i (lit (truth false)) fits h)
  expr_from_lem (suc levels) i (var v) few fits h = rw (term_held i (var v) fits h)
  expr_from_lem (suc levels) i (op o l r) few fits h =
      let operands = operands_held i o l r h in
      rw (
        term_held i (op o l r) fits h,
        expr_from_lem levels (suc i) l (omega arith) fits.1 operands.0,
        expr_from_lem levels (suc i + expr_nodes l) r (omega arith) fits.2 operands.1,
      )

  pub expr_held : (i : ℕ) (e : Expr) → expr_nodes e ≤ 31 → ExprFits e → TermsIn table i e → expr_in table i ≡ e
  unfolding expr_in
  expr_held i e few fits h = expr_from_lem 32 i e (omega arith) fits h

-- Each expression of a statement has at most 31 nodes, and its numbers fit.
abbrev pub ExprsFit : Stmt → Type 0
ExprsFit nil = Unit {0}
ExprsFit (assign v e) = (expr_nodes e ≤ 31) × ExprFits e
ExprsFit (seq l r) = ExprsFit l × ExprsFit r
ExprsFit (par l r) = ExprsFit l × ExprsFit r
ExprsFit (if e b) = (expr_nodes e ≤ 31) × ExprFits e × ExprsFit b
ExprsFit (while e b) = (expr_nodes e ≤ 31) × ExprFits e × ExprsFit b

pub length_handler_terms : (i : ℕ) (S : Stmt) → length (handler_terms i S) ≡ stmt_terms S
length_handler_terms i nil = refl
length_handler_terms i (assign v e) = length_term_words i e
length_handler_terms i (seq l r) = simp length-append (omega (arith, length_handler_terms i l, length_handler_terms (i + stmt_terms l) r))
length_handler_terms i (par l r) = simp length-append (omega (arith, length_handler_terms i l, length_handler_terms (i + stmt_terms l) r))
length_handler_terms i (if e b) = simp length-append (omega (arith, length_term_words i e, length_handler_terms (i + expr_nodes e) b))
length_handler_terms i (while e b) = simp length-append (omega (arith, length_term_words i e, length_handler_terms (i + expr_nodes e) b))

-- A table holds the expressions of a statement, whose nodes begin at number i.
pub record ExprsIn (table : List ℕ) (i : ℕ) (S : Stmt) : Type 0 where
  pub rest : List ℕ
  pub is : drop i table ≡ handler_terms i S ++ rest
  pub room : i + stmt_terms S ≤ 1953
  pub fits : ExprsFit S

-- It also holds those of its parts, and its own expression is found in it.
abbrev pub PartsExprs : List ℕ → ℕ → Stmt → Type 0
PartsExprs table i nil = Unit {0}
PartsExprs table i (assign v e) = expr_in table i ≡ e
PartsExprs table i (seq l r) = ExprsIn table i l × ExprsIn table (i + stmt_terms l) r
PartsExprs table i (par l r) = ExprsIn table i l × ExprsIn table (i + stmt_terms l) r
PartsExprs table i (if e b) = (expr_in table i ≡ e) × ExprsIn table (i + expr_nodes e) b
PartsExprs table i (while e b) = (expr_in table i ≡ e) × ExprsIn table (i + expr_nodes e) b

module _ (table : List ℕ) (i : ℕ) where
  halves : (l r : Stmt) (rest : List ℕ) → drop i table ≡ handler_terms i l ++ handler_terms (i + stmt_terms l) r ++ rest
      → i + (stmt_terms l + stmt_terms r) ≤ 1953 → ExprsFit l × ExprsFit r → ExprsIn table i l × ExprsIn table (i + stmt_terms l) r
  halves l r rest e room fits =
      let second = handler_terms (i + stmt_terms l) r in
      let held = both_held table i (stmt_terms l) (handler_terms i l) second rest (length_handler_terms i l) e in (
        record { rest = second ++ rest; is = held.0; room = omega arith; fits = fits.0 },
        record { rest = rest; is = held.1; room = omega arith; fits = fits.1 },
      )

  tested : (e : Expr) (b : Stmt) (rest : List ℕ) → drop i table ≡ term_words i e ++ handler_terms (i + expr_nodes e) b ++ rest
      → i + (expr_nodes e + stmt_terms b) ≤ 1953 → (expr_nodes e ≤ 31) × ExprFits e × ExprsFit b → (expr_in table i ≡ e) × ExprsIn table (i + expr_nodes e) b
  tested e b rest p room fits =
      let second = handler_terms (i + expr_nodes e) b in
      let held = both_held table i (expr_nodes e) (term_words i e) second rest (length_term_words i e) p in (
        expr_held table i e fits.0 fits.1 (record { rest = second ++ rest; is = held.0 }),
        record { rest = rest; is = held.1; room = omega arith; fits = fits.2 },
      )

  pub parts_exprs : (S : Stmt) → ExprsIn table i S → PartsExprs table i S
  parts_exprs nil h = tt
  parts_exprs (assign v e) h = expr_held table i e h.fits.0 h.fits.1 (record { rest = h.rest; is = h.is })
  parts_exprs (seq l r) h = halves l r h.rest h.is h.room h.fits
  parts_exprs (par l r) h = halves l r h.rest h.is h.room h.fits
  parts_exprs (if e b) h = tested e b h.rest h.is h.room h.fits
  parts_exprs (while e b) h = tested e b h.rest h.is h.room h.fits

-- Stores into a buffer with room for them make a table that holds the expressions of a statement.
pub exprs_stored : (entry : List ℕ) (S : Stmt) → stmt_terms S ≤ 1953 → 1953 ≤ length entry → ExprsFit S → ExprsIn (sets entry 0 (handler_terms 0 S)) 0 S
exprs_stored entry S few room fits =
    let words = handler_terms 0 S in
    record {
      rest = drop (0 + length words) entry;
      is = sets-eq words entry 0 (omega (arith, length_handler_terms 0 S));
      room = omega arith;
      fits = fits;
    }
