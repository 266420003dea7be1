-- After each round both buffers have the mentions of the first i nodes.
use Prim.Native.Nat.{◌≤◌}
use Rattle.form.specs.Mentions.{sets_of, relations_of}
use Rattle.canonical.proofs.Order.{SoFar}
use Rattle.canonical.proofs.mentions.mention_nodes.Given as goal

abbrev pub invariant-loop-i : goal.invariant-loop-i
invariant-loop-i l =
    (l.i ≤ l.count) × SoFar sets_of l.set_reps l.nodes l.initial.sets l.i l.sets l.set_count × SoFar relations_of l.relation_reps l.nodes l.initial.relations l.i l.relations l.relation_count
