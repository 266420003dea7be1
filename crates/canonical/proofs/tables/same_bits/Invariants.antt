-- After each round the first `done` bits are equal. A word that differs shows that the whole differs.
use Prim.Native.Nat.{◌-◌, ◌≤◌}
use mathlib.Core.Path.{◌≡◌}
use Rattle.bits.specs.Fields.{bits_at}
use Rattle.canonical.proofs.tables.same_bits.Given as goal

abbrev pub invariant-loop-done : goal.invariant-loop-done
invariant-loop-done l = (l.done ≤ l.width) × (bits_at l.src l.a l.done ≡ bits_at l.src l.b l.done)

abbrev pub decreases-loop-done : goal.decreases-loop-done
decreases-loop-done l = l.width - l.done
