-- docs/RULES.md, "Single steps": turns and open steps. One list, left to right, has an entry for every part that has its turn and
-- is ready: its step, or none if it stands still.
use Rattle.std.specs.Prelude.{ℕ, Bool, true, false, cond, ◌&&◌, List, [], ◌∷◌, ◌++◌, map}
use Rattle.std.proofs.Math.Option
use Rattle.std.proofs.Math.Option.{Option, none, some}
use Rattle.semantics.specs.Language.{int, truth, Expr, lit, var, op, Stmt, nil, assign, seq, par, if, while, apply}
use Rattle.semantics.specs.States.{Machine, store_of}

-- The remaining handler and the present state.
pub record Config : Type 0 where
  pub rest : Stmt
  pub state : ℕ

abbrev pub at : Stmt → ℕ → Config
at S s = record { rest = S; state = s }

-- The same step within the whole: what it leaves is put in its place.
abbrev pub in_context : (Stmt → Stmt) → Config → Config
in_context f c = at (f c.rest) c.state

abbrev pub is_nil : Stmt → Bool
is_nil nil = true
is_nil (assign v e) = false
is_nil (seq l r) = false
is_nil (par l r) = false
is_nil (if e b) = false
is_nil (while e b) = false

abbrev pub only_if : {A : Type 0} → Bool → A → List A
only_if b a = cond b (a ∷ []) []

-- Once both operands are constants, one step puts the result in their place.
abbrev pub result : ℕ → Expr → Expr → List (Option Expr)
result o (lit a) (lit b) = Option.map lit (apply o a b) ∷ []
result o (lit a) (var v) = []
result o (lit a) (op o' l r) = []
result o (var v) r = []
result o (op o' l r') r = []

-- Once the test is a constant, one step leaves the body where it is true, else nil.
abbrev pub branch : Expr → Stmt → ℕ → List (Option Config)
branch (lit (truth true)) body s = some (at body s) ∷ []
branch (lit (truth false)) body s = some (at nil s) ∷ []
branch (lit (int z)) body s = none ∷ []
branch (var v) body s = []
branch (op o l r) body s = []

module _ (m : Machine) where
  -- Once the expression is a constant, one step stores it and leaves nil; with a truth value, that part stands still.
  abbrev pub storing : ℕ → Expr → ℕ → List (Option Config)
  storing v (lit c) s = Option.map (at nil) (store_of m s v (some c)) ∷ []
  storing v (var w) s = []
  storing v (op o l r) s = []

  -- A variable occurrence becomes its present value; both operands of an operation step, mixed freely.
  abbrev pub expr_turns : Expr → ℕ → List (Option Expr)
  expr_turns (lit c) s = []
  expr_turns (var v) s = some (lit (int (m.get s v))) ∷ []
  expr_turns (op o l r) s =
      map (Option.map (λ e. op o e r)) (expr_turns l s) ++ map (Option.map (λ e. op o l e)) (expr_turns r s) ++ result o l r

  abbrev pub turns : Stmt → ℕ → List (Option Config)
  turns nil s = []
  turns (assign v e) s = map (Option.map (λ d. at (assign v d) s)) (expr_turns e s) ++ storing v e s
  turns (seq l r) s = map (Option.map (in_context (λ d. seq d r))) (turns l s) ++ only_if (is_nil l) (some (at r s))
  turns (par l r) s =
      map (Option.map (in_context (λ d. par d r))) (turns l s) ++ map (Option.map (in_context (λ d. par l d))) (turns r s)
      ++ only_if (is_nil l && is_nil r) (some (at nil s))
  turns (if e b) s = map (Option.map (λ d. at (if d b) s)) (expr_turns e s) ++ branch e b s
  turns (while e b) s = some (at (if e (seq b (while e b))) s) ∷ []
