-- After k rounds the first k relations are written; `tables_more` adds one.
use Prim.Native.Nat.{◌-◌, ◌*◌, ◌≤◌}
use mathlib.Core.List.{map}
use mathlib.Core.Path.{◌≡◌}
use Rattle.writer.specs.Packing.{part, put_parts}
use Rattle.composition.specs.Refinement.{relations_held}
use Rattle.composition.proofs.writing.write_relations.Given as goal

abbrev pub invariant-loop-r : goal.invariant-loop-r
invariant-loop-r l = (l.r ≤ l.count) × (l.out ≡ put_parts l.initial.out l.at (map (part (l.n * l.n)) (relations_held l.n l.words l.r)))

abbrev pub decreases-loop-r : goal.decreases-loop-r
decreases-loop-r l = l.count - l.r
