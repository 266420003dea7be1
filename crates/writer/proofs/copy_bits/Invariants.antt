-- After each round the first `done` bits are copied; `copy_more` adds a word.
use Prim.Native.Nat.{◌-◌, ◌≤◌}
use mathlib.Core.Path.{◌≡◌}
use Rattle.bits.specs.Fields.{bits_at}
use Rattle.writer.specs.Writing.{put_bits}
use Rattle.writer.proofs.copy_bits.Given as goal

abbrev pub invariant-loop-done : goal.invariant-loop-done
invariant-loop-done l = (l.done ≤ l.width) × (l.out ≡ put_bits l.initial.out l.to l.done (bits_at l.src l.from l.done))

abbrev pub decreases-loop-done : goal.decreases-loop-done
decreases-loop-done l = l.width - l.done
