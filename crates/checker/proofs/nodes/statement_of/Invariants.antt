-- After i rounds s is the statement at hand for node i, and no more than i.
use Prim.Native.Nat.{◌-◌, ◌≤◌}
use mathlib.Core.Path.{◌≡◌}
use Rattle.checker.specs.Nodes.{statement_at}
use Rattle.checker.proofs.nodes.statement_of.Given as goal

abbrev pub invariant-loop-i : goal.invariant-loop-i
invariant-loop-i l = (l.i ≤ l.node) × (l.s ≤ l.i) × (l.s ≡ statement_at l.nodes l.i)

abbrev pub decreases-loop-i : goal.decreases-loop-i
decreases-loop-i l = l.node - l.i
