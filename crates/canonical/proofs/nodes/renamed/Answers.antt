-- The names have 4 bits each.
use Prim.Native.Nat.{ℕ, ◌^◌, ◌<◌}
use mathlib.Core.List.{List}
use mathlib.Core.Path.{◌≡◌}
use native.Mathlib.Omega.{arith}
use Rattle.canonical.specs.Nodes.{name_in}
use Rattle.canonical.proofs.Order.{name_below}
use Rattle.canonical.proofs.nodes.renamed.Goals as goal

small : (names : List ℕ) (i r : ℕ) → r ≡ name_in names i → r < 2 ^ 32
small names i r is = omega (arith, is, name_below names i)

pub overflow_cast-result : goal.overflow_cast-result
overflow_cast-result c = omega (arith, small _ _ _ c.name_in.ensures)

pub overflow_cast-result-2 : goal.overflow_cast-result-2
overflow_cast-result-2 c = omega (arith, small _ _ _ c.name_in-2.ensures)

pub overflow_cast-result-3 : goal.overflow_cast-result-3
overflow_cast-result-3 c = omega (arith, small _ _ _ c.name_in-3.ensures)

pub overflow_cast-result-4 : goal.overflow_cast-result-4
overflow_cast-result-4 c = omega (arith, small _ _ _ c.name_in-4.ensures)

pub overflow_cast-result-5 : goal.overflow_cast-result-5
overflow_cast-result-5 c = omega (arith, small _ _ _ c.name_in-5.ensures)

pub overflow_cast-result-6 : goal.overflow_cast-result-6
overflow_cast-result-6 c = omega (arith, small _ _ _ c.name_in-6.ensures)
