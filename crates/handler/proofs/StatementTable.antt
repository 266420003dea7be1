-- Laws of the statement table: a word gives its statement back, and a table that holds the words of a statement from number j on
-- also holds those of its parts.
use Prim.Native.Nat.{ℕ, suc, ◌+◌, ◌-◌, ◌*◌, ◌/◌, ◌%◌, ◌≤◌, ◌<◌}
use mathlib.Core.List.{List, ◌∷◌, ◌++◌}
use mathlib.Core.Path.{◌≡◌, refl, ◌∙◌}
use native.Mathlib.Omega.{arith}
use lib.ListN.{length, get_or, drop, replicate, length-append}
use lib.Seq.{sets, sets-eq}
use Rattle.std.proofs.lemmas.List.{drop-replicate}
use Rattle.semantics.specs.Language.{Expr, Stmt, nil, assign, seq, par, if, while}
use Rattle.semantics.specs.Conditions.{statement_code, target_of}
use Rattle.handler.specs.declared.table.Statement.{Statement}
use Rattle.handler.specs.Kinds.{width, stmt_width}
use Rattle.handler.specs.Terms.{expr_nodes, stmt_terms}
use Rattle.handler.specs.StatementTable.{statements, statement_word, statement_of, statement_in, after_first, expr_number, statement_record, word_of, statement_words, statement_table}
use Rattle.handler.proofs.Stores.{first_held, later_held, both_held}

-- The fields of a word.
word_fields : (code target after expr bit : ℕ) → code < 8 → target < 4 → after < 128 → expr < 2048
    → let word = code + 8 * (target + 4 * (after + 128 * (expr + 2048 * bit))) in
    (word % 8 ≡ code) × (word / 8 % 4 ≡ target) × (word / 32 % 128 ≡ after) × (word / 4096 % 2048 ≡ expr) × (word / 8388608 ≡ bit)
word_fields code target after expr bit c t a e = (omega arith, omega arith, omega arith, omega arith, omega arith)

word_back : (s : Statement) → s.code < 8 → s.target < 4 → s.after < 128 → s.expr < 2048 → statement_of (statement_word s) ≡ s
unfolding statement_word statement_of
word_back s c t a e = let f = word_fields s.code s.target s.after s.expr s.bit c t a e in rw (f.0, f.1, f.2, f.3, f.4)

pub length_statement_words : (j bit i : ℕ) (S : Stmt) → length (statement_words j bit i S) ≡ statements S
length_statement_words j bit i nil = refl
length_statement_words j bit i (assign v e) = refl
length_statement_words j bit i (seq l r) =
    simp length-append (omega (arith, length_statement_words (suc j) (bit + 3) i l, length_statement_words (suc j + statements l) (bit + 3 + stmt_width l) (i + stmt_terms l) r))
length_statement_words j bit i (par l r) =
    simp length-append (omega (arith, length_statement_words (suc j) (bit + 3) i l, length_statement_words (suc j + statements l) (bit + 3 + stmt_width l) (i + stmt_terms l) r))
length_statement_words j bit i (if e b) = omega (arith, length_statement_words (suc j) (bit + 3 + width e) (i + expr_nodes e) b)
length_statement_words j bit i (while e b) = omega (arith, length_statement_words (suc j) (bit + 3 + width e) (i + expr_nodes e) b)

-- A table holds the words of a statement that is number j, at a bit, with i expression nodes before it.
pub record StatementIn (table : List ℕ) (j bit i : ℕ) (S : Stmt) : Type 0 where
  pub rest : List ℕ
  pub is : drop j table ≡ statement_words j bit i S ++ rest

-- It also holds those of its parts.
abbrev pub BothHeld : List ℕ → ℕ → ℕ → ℕ → Stmt → Stmt → Type 0
BothHeld table j bit i l r =
    StatementIn table (suc j) (bit + 3) i l × StatementIn table (suc j + statements l) (bit + 3 + stmt_width l) (i + stmt_terms l) r

abbrev pub PartsHeld : List ℕ → ℕ → ℕ → ℕ → Stmt → Type 0
PartsHeld table j bit i nil = Unit {0}
PartsHeld table j bit i (assign v e) = Unit {0}
PartsHeld table j bit i (seq l r) = BothHeld table j bit i l r
PartsHeld table j bit i (par l r) = BothHeld table j bit i l r
PartsHeld table j bit i (if e b) = StatementIn table (suc j) (bit + 3 + width e) (i + expr_nodes e) b
PartsHeld table j bit i (while e b) = StatementIn table (suc j) (bit + 3 + width e) (i + expr_nodes e) b

module _ (table : List ℕ) (j bit i : ℕ) where
  two : (l r : Stmt) (word : ℕ) (rest : List ℕ)
      → drop j table ≡ word ∷ (statement_words (suc j) (bit + 3) i l ++ statement_words (suc j + statements l) (bit + 3 + stmt_width l) (i + stmt_terms l) r ++ rest)
      → BothHeld table j bit i l r
  two l r word rest e =
      let first = statement_words (suc j) (bit + 3) i l in
      let second = statement_words (suc j + statements l) (bit + 3 + stmt_width l) (i + stmt_terms l) r in
      let held = both_held table (suc j) (statements l) first second rest (length_statement_words (suc j) (bit + 3) i l) (later_held table j word _ e) in
      (record { rest = second ++ rest; is = held.0 }, record { rest = rest; is = held.1 })

  one : (e : Expr) (b : Stmt) (word : ℕ) (rest : List ℕ) → drop j table ≡ word ∷ (statement_words (suc j) (bit + 3 + width e) (i + expr_nodes e) b ++ rest)
      → StatementIn table (suc j) (bit + 3 + width e) (i + expr_nodes e) b
  one e b word rest p = record { rest = rest; is = later_held table j word (statement_words (suc j) (bit + 3 + width e) (i + expr_nodes e) b ++ rest) p }

  pub parts_held : (S : Stmt) → StatementIn table j bit i S → PartsHeld table j bit i S
  parts_held nil h = tt
  parts_held (assign v e) h = tt
  parts_held (seq l r) h = two l r (word_of j bit i (seq l r)) h.rest h.is
  parts_held (par l r) h = two l r (word_of j bit i (par l r)) h.rest h.is
  parts_held (if e b) h = one e b (word_of j bit i (if e b)) h.rest h.is
  parts_held (while e b) h = one e b (word_of j bit i (while e b)) h.rest h.is

  -- The first of the words is the statement's own, and its numbers fit their fields.
  own_word : (S : Stmt) (rest : List ℕ)
      → (get_or (statement_words j bit i S ++ rest) 0 0 ≡ word_of j bit i S) × ((statement_code S < 8) × (after_first j S ≤ j + statements S) × (expr_number i S ≤ i))
  own_word nil rest = (refl, omega arith)
  own_word (assign v e) rest = (refl, omega arith)
  own_word (seq l r) rest = (refl, omega arith)
  own_word (par l r) rest = (refl, omega arith)
  own_word (if e b) rest = (refl, omega arith)
  own_word (while e b) rest = (refl, omega arith)

  -- If a table holds the words of a statement, its entry j is the statement's record.
  pub statement_held : (S : Stmt) → StatementIn table j bit i S → target_of S < 4 → j + statements S ≤ 63 → i ≤ 1953
      → statement_in table j ≡ statement_record j bit i S
  unfolding statement_in word_of
  statement_held S h target few room =
      let own = own_word S h.rest in
      rw (first_held table j _ h.is ∙ own.0) (word_back (statement_record j bit i S) own.1.0 target (omega arith) (omega arith))

-- Stores into a table of zeros make the table of a handler.
pub table_made : (bit : ℕ) (S : Stmt) → statements S ≤ 63 → sets (replicate 63 0) 0 (statement_words 0 bit 0 S) ≡ statement_table bit S
unfolding statement_table
table_made bit S few =
    let words = statement_words 0 bit 0 S in
    let long : 0 + length words ≡ statements S = omega (arith, length_statement_words 0 bit 0 S) in
    sets-eq words (replicate 63 0) 0 (omega arith) ∙ rw (long, drop-replicate {X = ℕ} (statements S) 63 0)

-- The table of a handler holds its statement.
pub table_held : (bit : ℕ) (S : Stmt) → StatementIn (statement_table bit S) 0 bit 0 S
unfolding statement_table
table_held bit S = record { rest = replicate (63 - statements S) 0; is = refl }
