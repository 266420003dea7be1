-- The lines so far are within the table.
use Rattle.std.proofs.Common.{◌≤◌, length}
use Rattle.handover.proofs.admit.write_table.Given as goal

abbrev pub invariant-loop-i : goal.invariant-loop-i
invariant-loop-i l = l.end ≤ length l.table
