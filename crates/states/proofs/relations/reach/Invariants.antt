-- The pairs that start in what was reached before the last round end in what is reached. Where that round added no state, all is reached.
use mathlib.Core.Bool.{not}
use Rattle.states.specs.Sets.{capacity, has}
use Rattle.states.specs.Relations.{rel}
use Rattle.states.proofs.Reach.{count}
use Rattle.states.proofs.Spread.{Spread}
use Rattle.states.proofs.relations.reach.Given as goal

abbrev pub invariant-loop-earlier : goal.invariant-loop-earlier
invariant-loop-earlier l = Spread (has l.initial.reached) (rel l.n l.rows) (has l.earlier) (has l.reached)

abbrev pub decreases-loop-earlier : goal.decreases-loop-earlier
decreases-loop-earlier l = count capacity (λ s. not (has l.earlier s))
