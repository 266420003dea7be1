-- As for a pair: through the states left the search finds what it finds through all. At a state s it is a search for the pairs of `second`
-- that do not end in the row of s.
use Prim.Native.Nat.{ℕ}
use mathlib.Core.List.{List}
use Rattle.states.specs.Search.{Search, must}
use Rattle.states.specs.Relations.{rel}
use Rattle.semantics.specs.Conditions.{in_set}
use Rattle.search.proofs.Breaches.{Searching}
use Rattle.search.proofs.least_chain.Given as goal

abbrev pub chains : ℕ → List ℕ → List ℕ → List ℕ → ℕ → Search
chains n first second good s = in_set n (rel n first s) (λ t. in_set n (rel n second t) (λ u. must (rel n good s u)))

abbrev pub invariant-loop-s : goal.invariant-loop-s
invariant-loop-s l = Searching l.n 2 (chains l.n l.first l.second l.good) l.initial.s-iterator.rest l.s-iterator.rest
