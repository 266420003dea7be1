-- After k rounds the head is that of the first k sizes.
use Prim.Native.Nat.{◌-◌, ◌≤◌}
use mathlib.Core.Path.{◌≡◌}
use Rattle.std.specs.Prelude.{Ok}
use Rattle.handler.specs.Header.{sizes_read, head_file}
use Rattle.handler.proofs.head.read_head.Given as goal

abbrev pub invariant-loop-k : goal.invariant-loop-k
invariant-loop-k l = (l.k ≤ l.count) × (l.count ≤ 4) × (Ok l.file ≡ head_file (sizes_read l.src l.k))

abbrev pub decreases-loop-k : goal.decreases-loop-k
decreases-loop-k l = l.count - l.k
