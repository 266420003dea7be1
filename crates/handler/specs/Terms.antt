-- The expressions of a handler as a table of their nodes in file order, one word for each: a node itself, then its operands.
use Rattle.std.specs.Prelude.{ℕ, zero, suc, ◌+◌, ◌-◌, ◌*◌, ◌/◌, ◌%◌, cond, List, [], ◌∷◌, ◌++◌, ◌≡◌, ltb, eqb, ℤ, pos, negsuc, get_or}
use Rattle.std.proofs.lemmas.List.Edits.{sets}
use Rattle.semantics.specs.Language.{Val, int, truth, Expr, lit, var, op, Stmt, nil, assign, seq, par, if, while}
use Rattle.handler.specs.declared.terms.Term.{Term}
use Rattle.handler.specs.Expressions.{most_expr_nodes, ExprRead, good, bad}
use Rattle.handler.specs.Statements.{most_statements, StmtRead, whole, fault}

-- The most expression nodes of a handler.
abbrev pub most_terms : ℕ
most_terms = most_statements * most_expr_nodes

-- An integer as 16 bits in two's complement, and back.
unfoldable pub bits16 : ℤ → ℕ
bits16 (pos n) = n
bits16 (negsuc n) = 65535 - n

unfoldable pub signed16 : ℕ → ℤ
signed16 n = cond (ltb n 32768) (pos n) (negsuc (65535 - n))

-- The number of nodes of an expression.
abbrev pub expr_nodes : Expr → ℕ
expr_nodes (lit v) = 1
expr_nodes (var v) = 1
expr_nodes (op o l r) = 1 + expr_nodes l + expr_nodes r

-- A node that is number i, by its tag: an integer (0), a truth value (1), a variable (2) or an operation (3).
abbrev pub val_term : Val → Term
val_term (int z) = record { tag = 0; value = bits16 z; right = 0 }
val_term (truth b) = record { tag = 1; value = cond b 1 0; right = 0 }

abbrev pub expr_term : ℕ → Expr → Term
expr_term i (lit v) = val_term v
expr_term i (var v) = record { tag = 2; value = v; right = 0 }
expr_term i (op o l r) = record { tag = 3; value = o; right = suc i + expr_nodes l }

-- A node as one word, and back: 2 bits for its tag, 16 for its value, then the number of its right operand.
unfoldable pub term_word : Term → ℕ
term_word x = x.tag + 4 * (x.value + 65536 * x.right)

unfoldable pub term_of : ℕ → Term
term_of word = record { tag = word % 4; value = word / 4 % 65536; right = word / 262144 }

-- Node i of a table. Past the end the word is 0.
unfoldable pub term_in : List ℕ → ℕ → Term
term_in table i = term_of (get_or table i 0)

-- The word of an expression's first node, which is number i.
unfoldable pub first_word : ℕ → Expr → ℕ
first_word i e = term_word (expr_term i e)

-- The words of an expression whose first node is number i.
abbrev pub term_words : ℕ → Expr → List ℕ
term_words i (lit v) = first_word i (lit v) ∷ []
term_words i (var v) = first_word i (var v) ∷ []
term_words i (op o l r) = first_word i (op o l r) ∷ (term_words (suc i) l ++ term_words (suc i + expr_nodes l) r)

-- The number of expression nodes in a statement, and their words, the first being number i.
abbrev pub stmt_terms : Stmt → ℕ
stmt_terms nil = 0
stmt_terms (assign v e) = expr_nodes e
stmt_terms (seq l r) = stmt_terms l + stmt_terms r
stmt_terms (par l r) = stmt_terms l + stmt_terms r
stmt_terms (if e b) = expr_nodes e + stmt_terms b
stmt_terms (while e b) = expr_nodes e + stmt_terms b

abbrev pub handler_terms : ℕ → Stmt → List ℕ
handler_terms i nil = []
handler_terms i (assign v e) = term_words i e
handler_terms i (seq l r) = handler_terms i l ++ handler_terms (i + stmt_terms l) r
handler_terms i (par l r) = handler_terms i l ++ handler_terms (i + stmt_terms l) r
handler_terms i (if e b) = term_words i e ++ handler_terms (i + expr_nodes e) b
handler_terms i (while e b) = term_words i e ++ handler_terms (i + expr_nodes e) b

-- The expression at a node, from the node and its operands.
abbrev pub on_term : Term → Expr → Expr → Expr
on_term x l r =
    cond (eqb x.tag 0) (lit (int (signed16 x.value)))
    (cond (eqb x.tag 1) (lit (truth (eqb x.value 1))) (cond (eqb x.tag 2) (var x.value) (op x.value l r)))

-- The expression whose first node is number i of a table, to so many levels. Past them it is an expression with no variable and no
-- value: there is no operation 7.
unfoldable pub expr_from : ℕ → List ℕ → ℕ → Expr
expr_from zero table i = op 7 (lit (int (pos 0))) (lit (int (pos 0)))
expr_from (suc levels) table i = on_term (term_in table i) (expr_from levels table (suc i)) (expr_from levels table (term_in table i).right)

-- An expression of a file has at most 31 nodes, so it has fewer levels than are read.
unfoldable pub expr_in : List ℕ → ℕ → Expr
expr_in table i = expr_from (suc most_expr_nodes) table i

-- What reading does to a table: the words of an expression, or of the expressions of a statement, are stored one after the other.
-- Nothing is said if reading finds a fault.
abbrev pub TermsStored : List ℕ → List ℕ → ℕ → ExprRead → Type 0
TermsStored entry exit i (good e nodes next) = exit ≡ sets entry i (term_words i e)
TermsStored entry exit i (bad k place) = Unit {0}

abbrev pub ExprsStored : List ℕ → List ℕ → ℕ → StmtRead → Type 0
ExprsStored entry exit i (whole S after next) = exit ≡ sets entry i (handler_terms i S)
ExprsStored entry exit i (fault k place) = Unit {0}
