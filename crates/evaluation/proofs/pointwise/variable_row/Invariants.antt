-- The cells below s hold the variable's values there; `place` and `value` are those of s.
use Prim.Native.Nat.{ℕ, ◌-◌, ◌/◌, ◌%◌}
use mathlib.Core.Path.{◌≡◌}
use lib.IntN.{ℤ, pos}
use Rattle.states.proofs.Cells.{Cells}
use Rattle.evaluation.proofs.pointwise.variable_row.Given as goal

abbrev pub Value : ℕ → ℕ → ℕ → ℤ → Type 0
Value weight size s z = z ≡ pos (s / weight % size)

abbrev pub invariant-loop-s : goal.invariant-loop-s
invariant-loop-s l =
    (l.place ≡ l.s % l.weight) × (l.value ≡ l.s / l.weight % l.size) × Cells (pos 0) (Value l.weight l.size) l.s l.row

abbrev pub decreases-loop-s : goal.decreases-loop-s
decreases-loop-s l = l.n - l.s
