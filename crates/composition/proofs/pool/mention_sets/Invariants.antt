-- The first i sets have been mentioned, and there is room for them.
use Prim.Native.Nat.{◌-◌, ◌≤◌}
use mathlib.Core.Path.{◌≡◌}
use lib.ListN.{length}
use Rattle.derivation.specs.Tables.{most_tables}
use Rattle.composition.specs.Refinement.{sets_held, Listed}
use Rattle.composition.proofs.pool.mention_sets.Given as goal

abbrev pub invariant-loop-i : goal.invariant-loop-i
invariant-loop-i l =
    (l.i ≤ l.tables) × (l.total ≤ most_tables) × (length l.pool ≡ length l.initial.pool) × (length l.names ≡ length l.initial.names)
    × Listed (sets_held l.n l.initial.pool l.count) (sets_held l.n l.words l.i) (sets_held l.n l.pool l.total) l.names

abbrev pub decreases-loop-i : goal.decreases-loop-i
decreases-loop-i l = l.tables - l.i
