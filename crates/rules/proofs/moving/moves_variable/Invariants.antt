-- From the states taken out of the set, r leads to states that agree; those left are still to be checked. `passed_part` checks all that
-- agree with the least, and `passed_not` ends the loop if the check fails.
use Prim.Native.Nat.{ℕ}
use mathlib.Core.Bool.{Bool, true}
use mathlib.Core.List.{List}
use Rattle.states.specs.Search.{implies, all}
use Rattle.states.specs.Sets.{capacity, has}
use Rattle.states.proofs.Reach.{count}
use Rattle.states.proofs.Members.{Passed}
use Rattle.evaluation.specs.declared.Variable.{Variable}
use Rattle.evaluation.specs.Values.{agree_in}
use Rattle.rules.specs.Words.{word_relation}
use Rattle.rules.proofs.moving.moves_variable.Given as goal

-- r leads from s to states that agree with it.
abbrev pub keeps : ℕ → List ℕ → ℕ → Variable → ℕ → Bool
keeps n work r variable s = all n (λ t. implies (word_relation n work r s t) (agree_in variable s t))

abbrev pub invariant-loop-variable : goal.invariant-loop-variable
invariant-loop-variable l = Passed l.n (keeps l.n l.work l.r l.variable) l.initial.rest l.rest true

abbrev pub decreases-loop-variable : goal.decreases-loop-variable
decreases-loop-variable l = count capacity (has l.rest)
