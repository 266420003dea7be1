-- After so many bits the buffer has the first of the value's bits; `put_more` adds those of one byte.
use Prim.Native.Nat.{◌-◌, ◌/◌, ◌^◌, ◌≤◌}
use mathlib.Core.Path.{◌≡◌}
use Rattle.writer.specs.Writing.{put_bits}
use Rattle.writer.proofs.put_bits.Given as goal

abbrev pub invariant-loop-done : goal.invariant-loop-done
invariant-loop-done l = (l.done ≤ l.width) × (l.out ≡ put_bits l.initial.out l.at l.done (l.value / 2 ^ (l.width - l.done)))

abbrev pub decreases-loop-done : goal.decreases-loop-done
decreases-loop-done l = l.width - l.done
