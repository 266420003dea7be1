-- Row s holds the state after the store at s. The loop fills the rows below s; those from N on stay empty, because no store starts
-- there.
use Prim.Native.Nat.{ℕ, ◌-◌}
use mathlib.Core.Path.{◌≡◌}
use mathlib.Core.Bool.{Bool, ◌&&◌}
use mathlib.Core.List.{List}
use lib.Dec.{ltb, eqb}
use lib.IntN.{ℤ, pos}
use lib.ListN.{get_or}
use Rattle.states.specs.Sets.{capacity, has}
use Rattle.states.specs.Relations.{RowsGiven}
use Rattle.evaluation.specs.declared.Variable.{Variable}
use Rattle.evaluation.specs.Refinement.{stored_by}
use Rattle.evaluation.proofs.successors.Given as goal

-- Whether a store of the row's integer at s leads to t, a state that a set can hold.
abbrev pub ends : Variable → List ℤ → ℕ → ℕ → Bool
ends x integers s t = ltb t capacity && eqb (stored_by x s (get_or integers s (pos 0))) t

abbrev pub invariant-loop-s : goal.invariant-loop-s
invariant-loop-s l = RowsGiven (λ s set. (t : ℕ) → has set t ≡ ends l.x l.integers s t) l.s l.rows

abbrev pub decreases-loop-s : goal.decreases-loop-s
decreases-loop-s l = l.s-end - l.s
