-- What the private functions promise about the values and stores that they compute. No public promise cites it.
use Rattle.std.specs.Prelude.{ℕ, zero, suc, ◌+◌, ◌-◌, ◌*◌, ◌≤◌, ◌<◌, ◌≡◌, List, [], ◌∷◌, ℤ, pos, get_or, Some, None}
use Rattle.std.specs.Prelude as std
use Rattle.std.proofs.Math.Option.{Option, none, some}
use Rattle.std.specs.Int.Signed.{mag}
use Rattle.states.specs.Sets.{has}
use Rattle.semantics.specs.Language.{Val, int, truth, Expr}
use Rattle.semantics.specs.States.{Machine, value, remainder}
use Rattle.handler.specs.declared.head.Head.{Head}
use Rattle.handler.specs.Expressions.{most_expr_nodes}
use Rattle.handler.specs.Header.{machine_in}
use Rattle.handler.specs.Terms.{expr_in}
use Rattle.evaluation.specs.declared.Values.{Values}
use Rattle.evaluation.specs.declared.Values.TheVariants.{Integers, Truths}
use Rattle.evaluation.specs.declared.Variable.{Variable}
use Rattle.evaluation.specs.Values.{value_by}

-- The codes of < and ∧: the operations below < give an integer, and those from < to below ∧ compare two integers.
abbrev pub less_code : ℕ
less_code = 2

abbrev pub and_code : ℕ
and_code = 5

-- The levels to which an expression is walked.
abbrev pub expr_levels : ℕ
expr_levels = suc most_expr_nodes

-- b, doubled k times.
abbrev pub doubled : ℕ → ℕ → ℕ
doubled b zero = b
doubled b (suc k) = 2 * doubled b k

-- The magnitude of every constant and of every variable's value is below this, and each level at most doubles the bound.
abbrev pub leaf_bound : ℕ
leaf_bound = 65536

-- The magnitude of every value of an expression is below this.
abbrev pub value_bound : ℕ
value_bound = 281474976710656

-- The integer at a state, 0 where there is none, and the value there.
abbrev pub integer_in : std.Option Values → ℕ → ℤ
integer_in None s = pos 0
integer_in (Some (Integers row)) s = get_or row s (pos 0)
integer_in (Some (Truths set)) s = pos 0

abbrev pub value_in : std.Option Values → ℕ → Option Val
value_in None s = none
value_in (Some (Integers row)) s = some (int (get_or row s (pos 0)))
value_in (Some (Truths set)) s = some (truth (has set s))

-- The values of an operation at n states, from those of its operands. The magnitude of an integer is at most the sum of the operands'
-- magnitudes plus 1.
abbrev pub Applied : ℕ → (ℕ → Option Val) → std.Option Values → std.Option Values → std.Option Values → Type 0
Applied n f left right row =
    (s : ℕ) → s < n → (value_in row s ≡ f s) × (mag (integer_in row s) ≤ mag (integer_in left s) + mag (integer_in right s) + 1)

-- The values at n states of an expression without operands, and a bound on the integers.
pub record LeafRow (n : ℕ) (m : Machine) (row : std.Option Values) (e : Expr) : Type 0 where
  pub each : (s : ℕ) → s < n → value_in row s ≡ value m e s
  pub small : (s : ℕ) → s < n → mag (integer_in row s) < leaf_bound

-- The values at n states of an expression that is walked to so many levels, and a bound on the integers.
pub record Walked (n : ℕ) (m : Machine) (levels : ℕ) (row : std.Option Values) (e : Expr) : Type 0 where
  pub each : (s : ℕ) → s < n → value_in row s ≡ value m e s
  pub small : (s : ℕ) → s < n → mag (integer_in row s) < doubled leaf_bound levels

-- The values of an expression of a table, at the states of a head.
pub record Evaluated (head : Head) (table : List ℕ) (expr : ℕ) (row : std.Option Values) : Type 0 where
  pub each : (s : ℕ) → s < (machine_in head).states → value_in row s ≡ value (machine_in head) (expr_in table expr) s
  pub small : (s : ℕ) → s < (machine_in head).states → mag (integer_in row s) < value_bound

-- The state after a store, from a variable's weight and size.
abbrev pub stored_by : Variable → ℕ → ℤ → ℕ
stored_by x s z = s - value_by x s * x.weight + remainder z x.size * x.weight
