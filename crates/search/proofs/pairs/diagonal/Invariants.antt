-- After the rows below s, the set has the states u below s with the pair (u,u). `any_more` adds the next.
use Prim.Native.Nat.{ℕ, ◌≤◌, ◌-◌}
use mathlib.Core.Path.{◌≡◌}
use mathlib.Core.Bool.{◌&&◌}
use lib.Dec.{eqb}
use Rattle.states.specs.Search.{any}
use Rattle.states.specs.Sets.{capacity, has}
use Rattle.states.specs.Relations.{rel}
use Rattle.search.proofs.pairs.diagonal.Given as goal

abbrev pub invariant-loop-s : goal.invariant-loop-s
invariant-loop-s l = (l.s ≤ capacity) × ((t : ℕ) → has l.found t ≡ any l.s (λ u. rel l.n l.rows u t && eqb u t))

abbrev pub decreases-loop-s : goal.decreases-loop-s
decreases-loop-s l = capacity - l.s
