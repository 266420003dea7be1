-- The loop has filled the rows below s.
use Prim.Native.Nat.{◌-◌}
use Rattle.states.specs.Relations.{RowsGiven}
use Rattle.states.proofs.relations.rows_to.Given as goal

abbrev pub invariant-loop-s : goal.invariant-loop-s
invariant-loop-s g l = RowsGiven (goal.F-post g l.row_of) l.s l.rows

abbrev pub decreases-loop-s : goal.decreases-loop-s
decreases-loop-s g l = l.count - l.s
