-- The rows below s are stored.
use Prim.Native.Nat.{◌-◌, ◌≤◌}
use Rattle.states.specs.Relations.{rel}
use Rattle.composition.proofs.Stored.{RowsStored}
use Rattle.composition.proofs.pool.store_relation.Given as goal

abbrev pub invariant-loop-s : goal.invariant-loop-s
invariant-loop-s l = (l.s ≤ l.n) × RowsStored l.initial.pool l.first (rel l.n l.rows) l.s l.pool

abbrev pub decreases-loop-s : goal.decreases-loop-s
decreases-loop-s l = l.n - l.s
