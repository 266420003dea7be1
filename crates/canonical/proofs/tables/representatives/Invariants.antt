-- After each round the first i entries are the least tables, and the first i mixes are those of the tables.
use Prim.Native.Nat.{ℕ, ◌≤◌, ◌<◌}
use mathlib.Core.Path.{◌≡◌}
use lib.ListN.{length, get_or}
use Rattle.canonical.specs.Refinement.{members_in, Least, Mixes}
use Rattle.canonical.proofs.tables.representatives.Given as goal

abbrev pub invariant-loop-i : goal.invariant-loop-i
invariant-loop-i l =
    (l.i ≤ l.count) × (length l.least ≡ 16) × (length l.mixes ≡ 16) × Mixes l.src l.run l.i l.mixes
    × ((k : ℕ) → k < l.i → Least (members_in l.src l.run) k (get_or l.least k 0))
