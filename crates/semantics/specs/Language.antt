-- docs/RULES.md, "The language": statements and expressions, the kinds of values, and the row of each operation.
use Rattle.std.specs.Prelude.{ℕ, Bool, true, false, ◌&&◌, ◌||◌, List, [], ◌∷◌, get_or, slice_get, ℤ, ◌+ℤ◌, ◌-ℤ◌, Some, None}
use Rattle.std.specs.Prelude as std
use Rattle.std.proofs.Math.Option.{Option, none, some}
use Rattle.std.specs.Int.Signed.{lt_z, le_z}
use Rattle.semantics.specs.declared.Kind.{Kind}
use Rattle.semantics.specs.declared.Kind.TheVariants.{Integer, Truth}

-- Arithmetic is exact.
pub data Val : Type 0 where
  int : ℤ → Val
  truth : Bool → Val

-- Variables and operations are given by their numbers in the handler file; the operations are + − < = > ∧ ∨, from 0.
pub data Expr : Type 0 where
  lit : Val → Expr
  var : ℕ → Expr
  op : ℕ → Expr → Expr → Expr

pub data Stmt : Type 0 where
  nil : Stmt
  assign : ℕ → Expr → Stmt
  seq par : Stmt → Stmt → Stmt
  if while : Expr → Stmt → Stmt

-- Each operation has a row: left kind, right kind, result kind; the rows of + − < = > ∧ ∨, by operation code.
abbrev pub Row : Type 0
Row = Kind × Kind × Kind

abbrev pub rows : List Row
rows =
    (Integer, Integer, Integer) ∷ (Integer, Integer, Integer) ∷ (Integer, Integer, Truth)
    ∷ (Integer, Integer, Truth) ∷ (Integer, Integer, Truth) ∷ (Truth, Truth, Truth) ∷ (Truth, Truth, Truth) ∷ []

-- An unused code has no row.
abbrev pub row_of : ℕ → std.Option Row
row_of o = slice_get rows o

abbrev pub same_kind : Kind → Kind → Bool
same_kind Integer Integer = true
same_kind Integer Truth = false
same_kind Truth Integer = false
same_kind Truth Truth = true

abbrev pub kind_of : Val → Kind
kind_of (int z) = Integer
kind_of (truth b) = Truth

-- Whether an operation gives the wanted kind and its operands are of the kinds that its row takes.
abbrev pub row_fits : std.Option Row → Kind → (Kind → Bool) → (Kind → Bool) → Bool
row_fits None k left right = false
row_fits (Some (a, b, c)) k left right = same_kind c k && left a && right b

-- Whether an expression is of the wanted kind throughout: a variable holds an integer.
abbrev pub fits : Kind → Expr → Bool
fits k (lit v) = same_kind (kind_of v) k
fits k (var v) = same_kind Integer k
fits k (op o l r) = row_fits (row_of o) k (λ a. fits a l) (λ b. fits b r)

-- An assigned expression is an integer, a test a truth value.
abbrev pub kinds_fit : Stmt → Bool
kinds_fit nil = true
kinds_fit (assign v e) = fits Integer e
kinds_fit (seq l r) = kinds_fit l && kinds_fit r
kinds_fit (par l r) = kinds_fit l && kinds_fit r
kinds_fit (if e b) = fits Truth e && kinds_fit b
kinds_fit (while e b) = fits Truth e && kinds_fit b

abbrev pub eq_z : ℤ → ℤ → Bool
eq_z a b = le_z a b && le_z b a

-- The result of each operation on two integers, and on two truth values; none if its row takes other kinds.
abbrev pub of_integers : ℤ → ℤ → List (Option Val)
of_integers a b =
    some (int (a +ℤ b)) ∷ some (int (a -ℤ b)) ∷ some (truth (lt_z a b)) ∷ some (truth (eq_z a b)) ∷ some (truth (lt_z b a)) ∷ []

abbrev pub of_truths : Bool → Bool → List (Option Val)
of_truths a b = none ∷ none ∷ none ∷ none ∷ none ∷ some (truth (a && b)) ∷ some (truth (a || b)) ∷ []

abbrev pub apply : ℕ → Val → Val → Option Val
apply o (int a) (int b) = get_or (of_integers a b) o none
apply o (truth a) (truth b) = get_or (of_truths a b) o none
apply o (int a) (truth b) = none
apply o (truth a) (int b) = none
