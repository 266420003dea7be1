-- The cells below s hold the sums or the differences there, whose magnitudes are at most the sum of the operands' plus 1.
use Prim.Native.Nat.{ℕ, ◌+◌, ◌-◌, ◌≤◌}
use mathlib.Core.List.{List}
use mathlib.Core.Option.{none, some}
use mathlib.Core.Path.{◌≡◌}
use lib.IntN.{ℤ, pos}
use lib.ListN.{get_or}
use lib.Signed.{mag}
use Rattle.semantics.specs.Language.{int, of_integers}
use Rattle.states.proofs.Cells.{Cells}
use Rattle.evaluation.proofs.pointwise.sum_row.Given as goal

abbrev pub Sum : ℕ → List ℤ → List ℤ → ℕ → ℤ → Type 0
Sum o left right s z =
    let a = get_or left s (pos 0) in
    let b = get_or right s (pos 0) in
    (some (int z) ≡ get_or (of_integers a b) o none) × (mag z ≤ mag a + mag b + 1)

abbrev pub invariant-loop-s : goal.invariant-loop-s
invariant-loop-s l = Cells (pos 0) (Sum l.o l.left l.right) l.s l.row

abbrev pub decreases-loop-s : goal.decreases-loop-s
decreases-loop-s l = l.n - l.s
