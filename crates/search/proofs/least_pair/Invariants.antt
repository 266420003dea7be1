-- Through the states left the search finds what it finds through all, because it found nothing at those taken out.
use Prim.Native.Nat.{ℕ}
use mathlib.Core.List.{List}
use Rattle.states.specs.Search.{Search, must}
use Rattle.states.specs.Relations.{rel}
use Rattle.semantics.specs.Conditions.{in_set}
use Rattle.search.proofs.Breaches.{Searching}
use Rattle.search.proofs.least_pair.Given as goal

abbrev pub ends : ℕ → List ℕ → List ℕ → ℕ → Search
ends n pairs good s = in_set n (rel n pairs s) (λ t. must (rel n good s t))

abbrev pub invariant-loop-s : goal.invariant-loop-s
invariant-loop-s l = Searching l.n 1 (ends l.n l.pairs l.good) l.initial.s-iterator.rest l.s-iterator.rest
