-- After each round the value is that of the first `done` bits. At most 8 bits are left, all among the 8 bits that are read last.
use Prim.Native.Nat.{◌-◌, ◌%◌, ◌≤◌}
use mathlib.Core.Path.{◌≡◌}
use Rattle.bits.specs.Fields.{bits_at}
use Rattle.bits.proofs.gather.Given as goal

abbrev pub invariant-loop-done : goal.invariant-loop-done
invariant-loop-done l = (l.done ≤ l.width) × (l.done % 8 ≡ 0) × (l.value ≡ bits_at l.src l.at l.done)

abbrev pub decreases-loop-done : goal.decreases-loop-done
decreases-loop-done l = l.width - l.done
