-- Through the states left the search finds what it finds through all, because it found nothing at those taken out.
use Prim.Native.Nat.{ℕ}
use native.Mathlib.Omega.{arith}
use mathlib.Core.Path.{◌≡◌, ◌∙◌, ap}
use mathlib.Core.Bool.{◌&&◌}
use lib.Dec.{ltb}
use Rattle.states.specs.Search.{must}
use Rattle.states.specs.Sets.{capacity, has}
use Rattle.states.specs.declared.iteration.States.{States}
use Rattle.states.proofs.Taking.{taken, least_came, none_more}
use Rattle.semantics.specs.Conditions.{in_set}
use Rattle.semantics.proofs.Naming.{one as one_state}
use Rattle.search.specs.Named.{states_found, listed, naming}
use Rattle.search.proofs.Breaches.{not_one, state_cong, finds_names, searching_all, searching_on, searching_found, searching_none}
use Rattle.search.proofs.least_pair.Invariants.{ends}
use Rattle.search.proofs.least_pair.Goals.{After-least_state, After-into_iter-s-iterator}
use Rattle.search.proofs.least_pair.Goals as goal

-- The states to look at.
start : (c : After-into_iter-s-iterator) → let a = c.args in
    (s : ℕ) → has c.into_iter-s-iterator.result.rest s ≡ (has a.from s && (ltb s capacity && ltb s a.n))
start c s =
    ap (λ (i : States). has i.rest s) c.into_iter-s-iterator.ensures.into_iter_gives ∙ ap (λ set. has set s) c.states-s-items.ensures
    ∙ c.meet.ensures s ∙ ap (λ b. has c.args.from s && b) (c.below.ensures s)

-- The answer at the state taken out.
answer : (c : After-least_state) → let a = c.args in
    c.least_state.result ≡ naming (states_found (ends a.n a.pairs.now a.good.now c.in-Some.s))
answer c =
    let n = c.args.n in
    let said : c.least_state.result ≡ naming (states_found (in_set n (has c.row.result) (λ t. must (has c.row-in-loop-s.result t))))
    = c.least_state.ensures in
    said ∙ ap (λ x. naming (states_found x)) (state_cong n _ _ _ _ (λ t l. c.row.ensures t) (λ t l h. c.row-in-loop-s.ensures t))

pub loop-s-init : goal.loop-s-init
loop-s-init c = searching_all _ _ _ _ _ (start c) (omega arith) (λ s. finds_names _ 1 _ (one_state _ _ _))

pub returns-in-One : goal.returns-in-One
unfolding listed naming
returns-in-One c =
    let least = least_came _ _ _ c.in-Some.ensures.steps in
    searching_found _ _ _ _ _ (start (goal.at.returns-in-One c).After-into_iter-s-iterator) _ _ least _ (answer (goal.at.returns-in-One c).After-least_state) (ap listed c.in-One.is) c.loop-s.invariant

pub loop-s-preserved : goal.loop-s-preserved
loop-s-preserved c =
    searching_on _ 1 _ _ _ _ _ (taken _ _ _ c.in-Some.ensures.steps).taken _ (answer (goal.at.loop-s-preserved c).After-least_state) (not_one _ c.in_default.not-One) c.loop-s.invariant

pub returns : goal.returns
returns c =
    searching_none _ _ _ _ _ (start (goal.at.returns c).After-into_iter-s-iterator) _ (none_more _ _ c.in-None.ensures.steps) c.loop-s.invariant
