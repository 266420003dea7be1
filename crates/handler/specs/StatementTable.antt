-- The statements of a handler as a table in file order, one word for each: the statement itself, then its parts.
use Rattle.std.specs.Prelude.{ℕ, suc, ◌+◌, ◌-◌, ◌*◌, ◌/◌, ◌%◌, max, List, [], ◌∷◌, ◌++◌, ◌≡◌, get_or, replicate}
use Rattle.std.proofs.lemmas.List.Edits.{sets}
use Rattle.semantics.specs.Language.{Stmt, nil, assign, seq, par, if, while}
use Rattle.semantics.specs.Conditions.{statement_code, target_of}
use Rattle.handler.specs.declared.table.Statement.{Statement}
use Rattle.handler.specs.Kinds.{width, stmt_width}
use Rattle.handler.specs.Statements.{most_statements, StmtRead, whole, fault}
use Rattle.handler.specs.Terms.{expr_nodes, stmt_terms}

-- The number of statements in a statement, itself included.
abbrev pub statements : Stmt → ℕ
statements nil = 1
statements (assign v e) = 1
statements (seq l r) = 1 + statements l + statements r
statements (par l r) = 1 + statements l + statements r
statements (if e b) = 1 + statements b
statements (while e b) = 1 + statements b

-- The number of levels of a statement: one if it has no parts, else one more than its highest part has.
abbrev pub stmt_levels : Stmt → ℕ
stmt_levels nil = 1
stmt_levels (assign v e) = 1
stmt_levels (seq l r) = suc (max (stmt_levels l) (stmt_levels r))
stmt_levels (par l r) = suc (max (stmt_levels l) (stmt_levels r))
stmt_levels (if e b) = suc (stmt_levels b)
stmt_levels (while e b) = suc (stmt_levels b)

-- A statement as one word, and back: 3 bits for its code, 2 for its variable, 7 for `after`, 11 for its expression, then its first bit.
unfoldable pub statement_word : Statement → ℕ
statement_word s = s.code + 8 * (s.target + 4 * (s.after + 128 * (s.expr + 2048 * s.bit)))

unfoldable pub statement_of : ℕ → Statement
statement_of word =
    record { code = word % 8; target = word / 8 % 4; after = word / 32 % 128; expr = word / 4096 % 2048; bit = word / 8388608 }

-- Statement j of a table. Past the end the word is 0.
unfoldable pub statement_in : List ℕ → ℕ → Statement
statement_in table j = statement_of (get_or table j 0)

-- The number of the statement after the first part of statement j; after j itself if it has no parts.
abbrev pub after_first : ℕ → Stmt → ℕ
after_first j nil = suc j
after_first j (assign v e) = suc j
after_first j (seq l r) = suc j + statements l
after_first j (par l r) = suc j + statements l
after_first j (if e b) = suc j + statements b
after_first j (while e b) = suc j + statements b

-- The number of the first node of a statement's expression, where the nodes of the statement begin at number i; 0 if it has none.
abbrev pub expr_number : ℕ → Stmt → ℕ
expr_number i nil = 0
expr_number i (assign v e) = i
expr_number i (seq l r) = 0
expr_number i (par l r) = 0
expr_number i (if e b) = i
expr_number i (while e b) = i

-- The record of a statement that is number j, at a bit; the nodes of its expressions begin at number i.
abbrev pub statement_record : ℕ → ℕ → ℕ → Stmt → Statement
statement_record j bit i S =
    record { code = statement_code S; target = target_of S; after = after_first j S; expr = expr_number i S; bit = bit }

-- Its word.
unfoldable pub word_of : ℕ → ℕ → ℕ → Stmt → ℕ
word_of j bit i S = statement_word (statement_record j bit i S)

-- Its words: its own, then those of its parts.
abbrev pub statement_words : ℕ → ℕ → ℕ → Stmt → List ℕ
statement_words j bit i nil = word_of j bit i nil ∷ []
statement_words j bit i (assign v e) = word_of j bit i (assign v e) ∷ []
statement_words j bit i (seq l r) =
    word_of j bit i (seq l r)
    ∷ (statement_words (suc j) (bit + 3) i l ++ statement_words (suc j + statements l) (bit + 3 + stmt_width l) (i + stmt_terms l) r)
statement_words j bit i (par l r) =
    word_of j bit i (par l r)
    ∷ (statement_words (suc j) (bit + 3) i l ++ statement_words (suc j + statements l) (bit + 3 + stmt_width l) (i + stmt_terms l) r)
statement_words j bit i (if e b) = word_of j bit i (if e b) ∷ statement_words (suc j) (bit + 3 + width e) (i + expr_nodes e) b
statement_words j bit i (while e b) = word_of j bit i (while e b) ∷ statement_words (suc j) (bit + 3 + width e) (i + expr_nodes e) b

-- What reading the statement at a bit does to a table, with `before` statements and i expression nodes before it: the words of the statement are stored one
-- after the other. Nothing is said if reading finds a fault.
abbrev pub StatementsStored : List ℕ → List ℕ → ℕ → ℕ → ℕ → StmtRead → Type 0
StatementsStored entry exit before bit i (whole S after next) = exit ≡ sets entry before (statement_words before bit i S)
StatementsStored entry exit before bit i (fault k place) = Unit {0}

-- The table of a handler whose statement is at a bit: 63 words, 0 past the last statement.
unfoldable pub statement_table : ℕ → Stmt → List ℕ
statement_table bit S = statement_words 0 bit 0 S ++ replicate (most_statements - statements S) 0
