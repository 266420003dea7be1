-- After the variables below v, the mask has those of them that R moves. `any_more` adds the next.
use Prim.Native.Nat.{ℕ, ◌≤◌, ◌-◌}
use mathlib.Core.Path.{◌≡◌}
use mathlib.Core.Bool.{◌&&◌}
use lib.Dec.{eqb}
use Rattle.states.specs.Search.{any}
use Rattle.handler.specs.Header.{machine_in}
use Rattle.evaluation.specs.Values.{in_mask}
use Rattle.rules.proofs.Movement.{moved_from}
use Rattle.rules.proofs.moving.moved.Given as goal

abbrev pub invariant-loop-v : goal.invariant-loop-v
invariant-loop-v l =
    (l.v ≤ l.count) × ((u : ℕ) → in_mask l.mask u ≡ any l.v (λ k. any (machine_in l.head).states (moved_from (machine_in l.head) l.work l.own k) && eqb k u))

abbrev pub decreases-loop-v : goal.decreases-loop-v
decreases-loop-v l = l.count - l.v
