-- Before the run at `from`, the set holds the states below `from` that have the value. The weight and the size are at most the
-- capacity, so every number is small.
use Prim.Native.Nat.{◌-◌}
use Rattle.evaluation.proofs.Runs.{Holds, Starts, has_value}
use Rattle.evaluation.proofs.pointwise.states_with.Given as goal

abbrev pub invariant-loop-from : goal.invariant-loop-from
invariant-loop-from l =
    Starts l.weight l.size l.value l.from × Holds (has_value l.weight l.size l.value) l.from l.found

abbrev pub decreases-loop-from : goal.decreases-loop-from
decreases-loop-from l = l.n - l.from
