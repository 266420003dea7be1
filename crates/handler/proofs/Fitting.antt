-- The kinds of a handler that was read fit: if there is no kind error, every node is of the kind wanted of it. Where a statement is does
-- not matter. A kind error is within the part that has it.
use Prim.Native.Nat.{ℕ, ◌+◌, ◌≤◌, ◌<◌}
use mathlib.Core.Bool.{Bool, true, false, cond, ◌&&◌}
use Rattle.std.specs.Prelude.{Option, Some, None}
use Rattle.std.specs.Option.{option_or}
use mathlib.Core.Path.{◌≡◌, refl}
use native.Mathlib.Omega.{arith}
use Rattle.bits.proofs.Places.{either}
use Rattle.semantics.specs.declared.Kind.{Kind}
use Rattle.semantics.specs.declared.Kind.TheVariants.{Integer, Truth}
use Rattle.semantics.specs.Language.{int, truth, Expr, lit, var, op, Stmt, nil, assign, seq, par, if, while, Row, row_of, same_kind, kind_of, row_fits, fits, kinds_fit}
use Rattle.handler.specs.Kinds.{width, row_kind_error, kind_error, stmt_width, stmt_kind_error}

-- If there is no kind error, a node is of the wanted kind, and neither of two parts has one.
own : (b : Bool) (x : Option ℕ) (at : ℕ) → cond b x (Some at) ≡ None → (b ≡ true) × (x ≡ None)
own true x at e = (refl, e)
own false x at e = absurd (let z : ◌≡◌ {A = ℕ} 0 1 = cc in omega arith)

each : (x y : Option ℕ) → option_or x y ≡ None → (x ≡ None) × (y ≡ None)
each None y e = (refl, e)
each (Some place) y e = absurd (let z : ◌≡◌ {A = ℕ} 0 1 = cc in omega arith)

both : (x y : Option ℕ) (a b : Bool) → (x ≡ None → a ≡ true) → (y ≡ None → b ≡ true) → option_or x y ≡ None → (a && b) ≡ true
both x y a b p q e = let sides = each x y e in rw (p sides.0, q sides.1)

pub expr_fits : (k : Kind) (at : ℕ) (e : Expr) → kind_error k at e ≡ None → fits k e ≡ true
expr_fits k at (lit v) e = (own (same_kind (kind_of v) k) None at e).0
expr_fits k at (var v) e = (own (same_kind Integer k) None at e).0
expr_fits k at (op o l r) e = by (row_of o) (λ a. expr_fits a (at + 5) l) (λ b. expr_fits b (at + 5 + width l) r) e
  where
    by : (row : Option Row) → ((a : Kind) → kind_error a (at + 5) l ≡ None → fits a l ≡ true)
        → ((b : Kind) → kind_error b (at + 5 + width l) r ≡ None → fits b r ≡ true)
        → row_kind_error row k at (λ a. kind_error a (at + 5) l) (λ b. kind_error b (at + 5 + width l) r) ≡ None
        → row_fits row k (λ a. fits a l) (λ b. fits b r) ≡ true
    by (Some (a, b, c)) left right e =
        let node = own (same_kind c k) (option_or (kind_error a (at + 5) l) (kind_error b (at + 5 + width l) r)) at e in
        rw node.0 (both _ _ _ _ (left a) (right b) node.1)
    by None left right e = absurd (let z : ◌≡◌ {A = ℕ} 0 1 = cc in omega arith)

pub stmt_fits : (at : ℕ) (S : Stmt) → stmt_kind_error at S ≡ None → kinds_fit S ≡ true
stmt_fits at nil e = refl
stmt_fits at (assign v x) e = expr_fits Integer (at + 5) x e
stmt_fits at (seq l r) e = both _ _ _ _ (stmt_fits (at + 3) l) (stmt_fits (at + 3 + stmt_width l) r) e
stmt_fits at (par l r) e = both _ _ _ _ (stmt_fits (at + 3) l) (stmt_fits (at + 3 + stmt_width l) r) e
stmt_fits at (if x b) e = both _ _ _ _ (expr_fits Truth (at + 3) x) (stmt_fits (at + 3 + width x) b) e
stmt_fits at (while x b) e = both _ _ _ _ (expr_fits Truth (at + 3) x) (stmt_fits (at + 3 + width x) b) e

-- If there is no kind error at one place, there is none at another.
none_anywhere : (x y x' y' : Option ℕ) → (x ≡ None → x' ≡ None) → (y ≡ None → y' ≡ None) → option_or x y ≡ None → option_or x' y' ≡ None
none_anywhere x y x' y' p q e = let sides = each x y e in rw (p sides.0, q sides.1)

expr_anywhere : (k : Kind) (at at' : ℕ) (e : Expr) → kind_error k at e ≡ None → kind_error k at' e ≡ None
expr_anywhere k at at' (lit v) e = rw (own (same_kind (kind_of v) k) None at e).0
expr_anywhere k at at' (var v) e = rw (own (same_kind Integer k) None at e).0
expr_anywhere k at at' (op o l r) e = by (row_of o) e (λ a. expr_anywhere a (at + 5) (at' + 5) l) (λ b. expr_anywhere b (at + 5 + width l) (at' + 5 + width l) r)
  where
    by : (row : Option Row) → row_kind_error row k at (λ a. kind_error a (at + 5) l) (λ b. kind_error b (at + 5 + width l) r) ≡ None
        → ((a : Kind) → kind_error a (at + 5) l ≡ None → kind_error a (at' + 5) l ≡ None)
        → ((b : Kind) → kind_error b (at + 5 + width l) r ≡ None → kind_error b (at' + 5 + width l) r ≡ None)
        → row_kind_error row k at' (λ a. kind_error a (at' + 5) l) (λ b. kind_error b (at' + 5 + width l) r) ≡ None
    by (Some (a, b, c)) e left right =
        let node = own (same_kind c k) (option_or (kind_error a (at + 5) l) (kind_error b (at + 5 + width l) r)) at e in
        rw node.0 (none_anywhere _ _ _ _ (left a) (right b) node.1)
    by None e left right = absurd (let z : ◌≡◌ {A = ℕ} 0 1 = cc in omega arith)

pub kinds_anywhere : (at at' : ℕ) (S : Stmt) → stmt_kind_error at S ≡ None → stmt_kind_error at' S ≡ None
kinds_anywhere at at' nil e = refl
kinds_anywhere at at' (assign v x) e = expr_anywhere Integer (at + 5) (at' + 5) x e
kinds_anywhere at at' (seq l r) e =
    none_anywhere _ _ _ _ (kinds_anywhere (at + 3) (at' + 3) l) (kinds_anywhere (at + 3 + stmt_width l) (at' + 3 + stmt_width l) r) e
kinds_anywhere at at' (par l r) e =
    none_anywhere _ _ _ _ (kinds_anywhere (at + 3) (at' + 3) l) (kinds_anywhere (at + 3 + stmt_width l) (at' + 3 + stmt_width l) r) e
kinds_anywhere at at' (if x b) e =
    none_anywhere _ _ _ _ (expr_anywhere Truth (at + 3) (at' + 3) x) (kinds_anywhere (at + 3 + width x) (at' + 3 + width x) b) e
kinds_anywhere at at' (while x b) e =
    none_anywhere _ _ _ _ (expr_anywhere Truth (at + 3) (at' + 3) x) (kinds_anywhere (at + 3 + width x) (at' + 3 + width x) b) e

-- A kind error is within the part that has it.
abbrev pub Within : ℕ → ℕ → Option ℕ → Type 0
Within at wide None = Unit {0}
Within at wide (Some place) = place < at + wide

first_within : (at wide : ℕ) (x y : Option ℕ) → Within at wide x → Within at wide y → Within at wide (option_or x y)
first_within at wide None y p q = q
first_within at wide (Some place) y p q = p

-- A part within a whole.
part_within : (at wide at' wide' : ℕ) → at + wide ≤ at' + wide' → (x : Option ℕ) → Within at wide x → Within at' wide' x
part_within at wide at' wide' h None p = tt
part_within at wide at' wide' h (Some place) p = omega arith

kind_within : (k : Kind) (at : ℕ) (e : Expr) → Within at (width e) (kind_error k at e)
kind_within k at (lit (int z)) = either (Within at 10) (same_kind Integer k) None (Some at) tt (omega arith)
kind_within k at (lit (truth b)) = either (Within at 3) (same_kind Truth k) None (Some at) tt (omega arith)
kind_within k at (var v) = either (Within at 4) (same_kind Integer k) None (Some at) tt (omega arith)
kind_within k at (op o l r) = by (row_of o) (λ a. kind_within a (at + 5) l) (λ b. kind_within b (at + 5 + width l) r)
  where
    wide : ℕ
    wide = 5 + width l + width r

    by : (row : Option Row) → ((a : Kind) → Within (at + 5) (width l) (kind_error a (at + 5) l))
        → ((b : Kind) → Within (at + 5 + width l) (width r) (kind_error b (at + 5 + width l) r))
        → Within at wide (row_kind_error row k at (λ a. kind_error a (at + 5) l) (λ b. kind_error b (at + 5 + width l) r))
    by (Some (a, b, c)) left right =
        let x = kind_error a (at + 5) l in
        let y = kind_error b (at + 5 + width l) r in
        either (Within at wide) (same_kind c k) (option_or x y) (Some at)
        (first_within at wide x y (part_within (at + 5) (width l) at wide (omega arith) x (left a))
        (part_within (at + 5 + width l) (width r) at wide (omega arith) y (right b))) (omega arith)
    by None left right = omega arith

-- Of two parts after a code of 3 bits, the first error is that of the first.
two_within : (at a b : ℕ) (x y : Option ℕ) → Within (at + 3) a x → Within (at + 3 + a) b y → Within at (3 + a + b) (option_or x y)
two_within at a b x y p q =
    first_within at (3 + a + b) x y (part_within (at + 3) a at (3 + a + b) (omega arith) x p) (part_within (at + 3 + a) b at (3 + a + b) (omega arith) y q)

pair_within : (at : ℕ) (l r : Stmt) → Within (at + 3) (stmt_width l) (stmt_kind_error (at + 3) l)
    → Within (at + 3 + stmt_width l) (stmt_width r) (stmt_kind_error (at + 3 + stmt_width l) r) → Within at (stmt_width (seq l r)) (stmt_kind_error at (seq l r))
pair_within at l r p q = two_within at (stmt_width l) (stmt_width r) (stmt_kind_error (at + 3) l) (stmt_kind_error (at + 3 + stmt_width l) r) p q

test_within : (at : ℕ) (e : Expr) (b : Stmt) → Within (at + 3 + width e) (stmt_width b) (stmt_kind_error (at + 3 + width e) b)
    → Within at (stmt_width (if e b)) (stmt_kind_error at (if e b))
test_within at e b q =
    two_within at (width e) (stmt_width b) (kind_error Truth (at + 3) e) (stmt_kind_error (at + 3 + width e) b) (kind_within Truth (at + 3) e) q

pub stmt_within : (at : ℕ) (S : Stmt) → Within at (stmt_width S) (stmt_kind_error at S)
stmt_within at nil = tt
stmt_within at (assign v e) =
    part_within (at + 5) (width e) at (5 + width e) (omega arith) (kind_error Integer (at + 5) e) (kind_within Integer (at + 5) e)
stmt_within at (seq l r) = pair_within at l r (stmt_within (at + 3) l) (stmt_within (at + 3 + stmt_width l) r)
stmt_within at (par l r) = pair_within at l r (stmt_within (at + 3) l) (stmt_within (at + 3 + stmt_width l) r)
stmt_within at (if e b) = test_within at e b (stmt_within (at + 3 + width e) b)
stmt_within at (while e b) = test_within at e b (stmt_within (at + 3 + width e) b)
