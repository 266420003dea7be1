-- After the states below s, the set holds those of them at which the comparison is true.
use Prim.Native.Nat.{◌-◌}
use mathlib.Core.Bool.{true}
use mathlib.Core.Option.{none}
use lib.IntN.{pos}
use lib.ListN.{get_or}
use Rattle.semantics.specs.Language.{of_integers}
use Rattle.semantics.specs.States.{is_truth}
use Rattle.evaluation.proofs.Runs.{Holds}
use Rattle.evaluation.proofs.pointwise.compared.Given as goal

abbrev pub invariant-loop-s : goal.invariant-loop-s
invariant-loop-s l =
    Holds (λ t. is_truth true (get_or (of_integers (get_or l.left t (pos 0)) (get_or l.right t (pos 0))) l.o none)) l.s l.found

abbrev pub decreases-loop-s : goal.decreases-loop-s
decreases-loop-s l = l.n - l.s
