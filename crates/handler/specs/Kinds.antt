-- docs/FORMAT.md, "Kinds": 16, the first node, in file order, whose result is not of the wanted kind; in expressions, then in
-- statements. The bit of a part is that of the whole plus the widths before the part, because the format has one encoding for
-- each tree.
use Rattle.std.specs.Prelude.{ℕ, ◌+◌, cond, Option, Some, None}
use Rattle.std.specs.Option.{option_or}
use Rattle.semantics.specs.declared.Kind.{Kind}
use Rattle.semantics.specs.declared.Kind.TheVariants.{Integer, Truth}
use Rattle.semantics.specs.Language.{Val, int, truth, Expr, lit, var, op, Stmt, nil, assign, seq, par, if, while, Row, row_of, same_kind, kind_of}

abbrev pub val_width : Val → ℕ
val_width (int z) = 10
val_width (truth b) = 3

-- How many bits an expression takes.
abbrev pub width : Expr → ℕ
width (lit v) = val_width v
width (var v) = 4
width (op o l r) = 5 + width l + width r

-- A node's own place comes first, then those of its operands, whose kinds its row gives.
abbrev pub row_kind_error : Option Row → Kind → ℕ → (Kind → Option ℕ) → (Kind → Option ℕ) → Option ℕ
row_kind_error (Some (a, b, c)) k at left right = cond (same_kind c k) (option_or (left a) (right b)) (Some at)
row_kind_error None k at left right = Some at

-- The first node, in an expression at a place, that is not of the kind wanted of it.
abbrev pub kind_error : Kind → ℕ → Expr → Option ℕ
kind_error k at (lit v) = cond (same_kind (kind_of v) k) None (Some at)
kind_error k at (var v) = cond (same_kind Integer k) None (Some at)
kind_error k at (op o l r) = row_kind_error (row_of o) k at (λ a. kind_error a (at + 5) l) (λ b. kind_error b (at + 5 + width l) r)

-- How many bits a statement takes.
abbrev pub stmt_width : Stmt → ℕ
stmt_width nil = 3
stmt_width (assign v e) = 5 + width e
stmt_width (seq l r) = 3 + stmt_width l + stmt_width r
stmt_width (par l r) = 3 + stmt_width l + stmt_width r
stmt_width (if e b) = 3 + width e + stmt_width b
stmt_width (while e b) = 3 + width e + stmt_width b

-- An assigned expression is an integer, a test a truth value.
abbrev pub stmt_kind_error : ℕ → Stmt → Option ℕ
stmt_kind_error at nil = None
stmt_kind_error at (assign v e) = kind_error Integer (at + 5) e
stmt_kind_error at (seq l r) = option_or (stmt_kind_error (at + 3) l) (stmt_kind_error (at + 3 + stmt_width l) r)
stmt_kind_error at (par l r) = option_or (stmt_kind_error (at + 3) l) (stmt_kind_error (at + 3 + stmt_width l) r)
stmt_kind_error at (if e b) = option_or (kind_error Truth (at + 3) e) (stmt_kind_error (at + 3 + width e) b)
stmt_kind_error at (while e b) = option_or (kind_error Truth (at + 3) e) (stmt_kind_error (at + 3 + width e) b)
