-- docs/RULES.md, "Step number".
use Rattle.std.specs.Prelude.{ℕ, ◌+◌, ◌-◌, ◌*◌, ◌^◌}
use Rattle.semantics.specs.Language.{Expr, lit, var, op, Stmt, nil, assign, seq, par, if, while}

-- E of an expression is its variable occurrences plus its operations.
abbrev pub E : Expr → ℕ
E (lit c) = 0
E (var v) = 1
E (op o l r) = E l + E r + 1

-- The limit of the step number.
abbrev pub most_steps : ℕ
most_steps = 2 ^ 32 - 1

-- The step number of a statement over N states.
abbrev pub steps : ℕ → Stmt → ℕ
steps N nil = 0
steps N (assign v e) = E e + 1
steps N (seq l r) = steps N l + steps N r + 1
steps N (par l r) = steps N l + steps N r + 1
steps N (if e b) = E e + 1 + steps N b
steps N (while e b) = N * (E e + 2) + (N - 1) * (steps N b + 1)
