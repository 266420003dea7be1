-- As for a pair: through the states left the search finds what it finds through all. At a state s it is a search for the pairs of `second`
-- that do not end in the row of s.
use Prim.Native.Nat.{ℕ}
use native.Mathlib.Omega.{arith}
use mathlib.Core.Path.{◌≡◌, refl, ◌∙◌, ap}
use mathlib.Core.Bool.{◌&&◌}
use lib.Dec.{ltb}
use Rattle.states.specs.Search.{must}
use Rattle.states.specs.Sets.{capacity, has}
use Rattle.states.specs.Relations.{rel}
use Rattle.states.specs.declared.iteration.States.{States}
use Rattle.states.proofs.Members.{has_below}
use Rattle.states.proofs.Taking.{taken, least_came, none_more}
use Rattle.semantics.specs.Conditions.{in_set}
use Rattle.semantics.proofs.Naming.{two as one-pair}
use Rattle.search.specs.Named.{states_found, listed, naming}
use Rattle.search.proofs.Breaches.{not_two, pair_cong, finds_names, searching_all, searching_on, searching_found, searching_none, into_at}
use Rattle.search.proofs.least_chain.Invariants.{chains}
use Rattle.search.proofs.least_chain.Goals.{After-least_pair, After-into_iter-s-iterator}
use Rattle.search.proofs.least_chain.Goals as goal

-- The states to look at.
start : (c : After-into_iter-s-iterator) → let a = c.args in
    (s : ℕ) → has c.into_iter-s-iterator.result.rest s ≡ (has a.from s && (ltb s capacity && ltb s a.n))
start c s =
    ap (λ (i : States). has i.rest s) c.into_iter-s-iterator.ensures.into_iter_gives ∙ ap (λ set. has set s) c.states-s-items.ensures
    ∙ c.meet.ensures s ∙ ap (λ b. has c.args.from s && b) (c.below.ensures s)

-- The answer at the state taken out.
answer : (c : After-least_pair) → let a = c.args in
    c.least_pair.result ≡ naming (states_found (chains a.n a.first.now a.second.now a.good.now c.in-Some.s))
answer c =
    let a = c.args in
    let said : c.least_pair.result ≡ naming (states_found (in_set a.n (has c.row-in-loop-s.result)
    (λ t. in_set a.n (rel a.n a.second.now t) (λ u. must (rel a.n c.all_into-into.result t u)))))
    = c.least_pair.ensures in
    said
    ∙ ap (λ x. naming (states_found x)) (pair_cong a.n _ _ _ _ _ _ (λ t l. c.row-in-loop-s.ensures t) (λ t l h u m. refl)
    (λ t l h u m e. into_at a.n _ _ (c.all_into-into.ensures a.n) t u (has_below _ t h) l m ∙ c.row.ensures u))

pub loop-s-init : goal.loop-s-init
loop-s-init c = searching_all _ _ _ _ _ (start c) (omega arith) (λ s. finds_names _ 2 _ (one-pair _ _ _ _))

pub returns-in-Two : goal.returns-in-Two
unfolding listed naming
returns-in-Two c =
    let least = least_came _ _ _ c.in-Some.ensures.steps in
    searching_found _ _ _ _ _ (start (goal.at.returns-in-Two c).After-into_iter-s-iterator) _ _ least _ (answer (goal.at.returns-in-Two c).After-least_pair) (ap listed c.in-Two.is) c.loop-s.invariant

pub loop-s-preserved : goal.loop-s-preserved
loop-s-preserved c =
    searching_on _ 2 _ _ _ _ _ (taken _ _ _ c.in-Some.ensures.steps).taken _ (answer (goal.at.loop-s-preserved c).After-least_pair) (not_two _ c.in_default.not-Two) c.loop-s.invariant

pub returns : goal.returns
returns c =
    searching_none _ _ _ _ _ (start (goal.at.returns c).After-into_iter-s-iterator) _ (none_more _ _ c.in-None.ensures.steps) c.loop-s.invariant
