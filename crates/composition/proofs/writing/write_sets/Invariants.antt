-- After i rounds the first i sets are written; `set_more` adds one.
use Prim.Native.Nat.{◌-◌, ◌≤◌}
use mathlib.Core.List.{map}
use mathlib.Core.Path.{◌≡◌}
use Rattle.writer.specs.Packing.{part, put_parts}
use Rattle.composition.specs.Refinement.{sets_held}
use Rattle.composition.proofs.writing.write_sets.Given as goal

abbrev pub invariant-loop-i : goal.invariant-loop-i
invariant-loop-i l = (l.i ≤ l.count) × (l.out ≡ put_parts l.initial.out l.at (map (part l.n) (sets_held l.n l.words l.i)))

abbrev pub decreases-loop-i : goal.decreases-loop-i
decreases-loop-i l = l.count - l.i
