-- As long as the bits passed are zero, the first set bit of all is the first of those left.
use Prim.Native.Nat.{◌+◌, ◌-◌, ◌≤◌}
use mathlib.Core.Path.{◌≡◌}
use Rattle.bits.specs.Fields.{first_set, fill_from, fill_at}
use Rattle.bits.proofs.read_fill.Given as goal

abbrev pub invariant-loop-k : goal.invariant-loop-k
invariant-loop-k l = (l.k ≤ l.count) × (fill_from l.src (l.at + l.count) (first_set l.src (l.at + l.k) (l.count - l.k)) ≡ fill_at l.src l.at)

abbrev pub decreases-loop-k : goal.decreases-loop-k
decreases-loop-k l = l.count - l.k
