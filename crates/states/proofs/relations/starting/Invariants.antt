-- After the rows below s, the set has the states below s that start a pair. `any_more` adds the next; a state past the rows starts none.
use Prim.Native.Nat.{ℕ, ◌≤◌, ◌-◌}
use mathlib.Core.Path.{◌≡◌}
use mathlib.Core.Bool.{◌&&◌}
use lib.Dec.{ltb, eqb}
use Rattle.states.specs.Search.{any}
use Rattle.states.specs.Sets.{capacity, has}
use Rattle.states.specs.Relations.{rel}
use Rattle.states.proofs.relations.starting.Given as goal

abbrev pub invariant-loop-s : goal.invariant-loop-s
invariant-loop-s l = (l.s ≤ l.s-end) × ((t : ℕ) → has l.found t ≡ any l.s (λ u. ltb t capacity && any l.n (rel l.n l.rows u) && eqb u t))

abbrev pub decreases-loop-s : goal.decreases-loop-s
decreases-loop-s l = l.s-end - l.s
