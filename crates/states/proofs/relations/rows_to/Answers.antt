-- The loop has filled the rows below s.
use native.Mathlib.Omega.{arith}
use Rattle.states.proofs.EntryLaws.{rows_none, rows_more}
use Rattle.states.proofs.relations.rows_to.Goals as goal

pub loop-s-init : goal.loop-s-init
loop-s-init g c = rows_none _

pub loop-s-preserved : goal.loop-s-preserved
loop-s-preserved g c = rw c.put_entry.ensures (rows_more _ _ _ _ (omega arith) c.row_of.ensures c.loop-s.invariant)
