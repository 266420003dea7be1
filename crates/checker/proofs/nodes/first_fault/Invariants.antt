-- The first fault of all nodes is that of the nodes from i on. `goes_on` passes over a node whose conditions hold.
use Prim.Native.Nat.{◌-◌, ◌≤◌}
use mathlib.Core.Path.{◌≡◌}
use Rattle.checker.specs.Nodes.{faults_from}
use Rattle.checker.proofs.nodes.first_fault.Given as goal

abbrev pub invariant-loop-i : goal.invariant-loop-i
invariant-loop-i l =
    (l.i ≤ l.count) × (l.s ≤ l.i) × (faults_from l.exprs l.head l.work l.nodes l.statements l.count 0 0 ≡ faults_from l.exprs l.head l.work l.nodes l.statements (l.count - l.i) l.i l.s)

abbrev pub decreases-loop-i : goal.decreases-loop-i
decreases-loop-i l = l.count - l.i
