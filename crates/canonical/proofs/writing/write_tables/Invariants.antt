-- After k rounds the first k tables are written; `tables_more` adds one.
use Prim.Native.Nat.{◌≤◌}
use mathlib.Core.Path.{◌≡◌}
use Rattle.writer.specs.Packing.{put_parts}
use Rattle.canonical.proofs.Copying.{table_parts}
use Rattle.canonical.proofs.writing.write_tables.Given as goal

abbrev pub invariant-loop-k : goal.invariant-loop-k
invariant-loop-k l = (l.k ≤ l.count) × (l.out ≡ put_parts l.initial.out l.at (table_parts l.src l.run l.order l.k))
