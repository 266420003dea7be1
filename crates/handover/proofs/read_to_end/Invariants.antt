-- The bytes read are within the buffer, whose length does not change; each round reads at least one more byte.
use Rattle.std.proofs.Common.{length, ◌-◌, ◌≤◌}
use Rattle.handover.proofs.read_to_end.Given as goal

abbrev pub invariant-loop-done : goal.invariant-loop-done
invariant-loop-done g l = l.done ≤ length l.initial.buf

abbrev pub decreases-loop-done : goal.decreases-loop-done
decreases-loop-done g l = length l.initial.buf - l.done
