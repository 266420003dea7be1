-- From the states taken out of the set, r leads to states that agree; those left are still to be checked. `passed_part` checks all that
-- agree with the least, and `passed_not` ends the loop if the check fails.
use Prim.Native.Nat.{ℕ}
use mathlib.Core.Path.{◌≡◌, ◌∙◌, sym, ap, ap₂, refl}
use mathlib.Core.Bool.{Bool, true, false, not, ◌&&◌, ◌||◌, and-false}
use lib.Dec.{ltb, eqb}
use borrow.Author.Tests.{lt-ltb, eq-eqb}
use Rattle.states.specs.Search.{implies, all, any}
use Rattle.states.specs.Sets.{capacity, has}
use Rattle.states.proofs.Search.{and_left, and_both, or_right, any_cong}
use Rattle.states.proofs.Reach.{count_more}
use Rattle.states.proofs.Members.{least_of, none_left, start_below, start_same, passed_none, passed_part, passed_all}
use Rattle.handler.specs.Header.{machine_in}
use Rattle.evaluation.specs.Values.{agree, agree_in}
use Rattle.evaluation.proofs.Laws.{agree_variable}
use Rattle.rules.specs.Words.{word_relation}
use Rattle.rules.proofs.Words.{leads_cong}
use Rattle.rules.proofs.Movement.{alike, alike_within, not_kept, passed_not}
use Rattle.rules.proofs.moving.moves_variable.Invariants.{keeps}
use Rattle.rules.proofs.moving.moves_variable.Goals.{After-join-alike, After-leads_into, After-meet-rest}
use Rattle.std.proofs.lemmas.Bool.{not_from_false, not_from_true}
use Rattle.rules.proofs.moving.moves_variable.Goals as goal

-- The states taken out in one round, and what is checked for them.
group : (c : After-join-alike) → let first = c.least-first.result in
    (s : ℕ) → has c.join-alike.result s ≡ (agree_in c.variable_of-variable.result first s || ltb s capacity && eqb first s)
group c s = c.join-alike.ensures s ∙ ap₂ ◌||◌ (c.agreeing-agree.ensures s) (c.single.ensures s)

asked : (c : After-leads_into) → let a = c.args in
    ((s : ℕ) → has c.join-alike.result s ≡ (agree_in c.variable_of-variable.result c.least-first.result s || ltb s capacity && eqb c.least-first.result s))
    → c.leads_into.result ≡ all a.n (λ s. implies (has c.loop-variable.rest s && has c.join-alike.result s) (keeps a.n a.work.now a.r c.variable_of-variable.result s))
asked c own =
    let a = c.args in
    let x = c.variable_of-variable.result in
    c.leads_into.ensures
    ∙ leads_cong _ _ _ _ _ _ c.meet.ensures c.agreeing-agree.ensures
    ∙ alike_within a.n (has c.loop-variable.rest) _ (word_relation a.n a.work.now a.r) (agree_in x) _
    (λ s h. alike x _ s (sym (own s) ∙ h))

-- The states to take out are those of the set that are below n.
start : (c : After-meet-rest) → let a = c.args in
    (s : ℕ) → has c.meet-rest.result s ≡ (has a.from s && (ltb s capacity && ltb s a.n))
start c s = c.meet-rest.ensures s ∙ ap (λ b. has c.args.from s && b) (c.below.ensures s)

-- What the loop finds is what the contract says: the loop starts with the states of the set below n, and its variable is v of the head.
moved : (c : After-meet-rest) (b : Bool) → let a = c.args in
    b ≡ all a.n (λ s. implies (has c.meet-rest.result s) (keeps a.n a.work.now a.r c.variable_of-variable.result s))
    → not b ≡ any a.n (λ s. has a.from s && any a.n (λ t. word_relation a.n a.work.now a.r s t && not (agree (machine_in a.head) a.v s t)))
moved c b e =
    let a = c.args in
    ap not e ∙ not_kept a.n _ _ _
    ∙ any_cong a.n _ _ (λ s l. ap₂ ◌&&◌ (start_same a.n a.from _ (start c) s l) (any_cong a.n _ _ (λ t k.
    ap (λ x. word_relation a.n a.work.now a.r s t && not x) (ap (λ x. agree_in x s t) c.variable_of-variable.ensures ∙ agree_variable a.head a.v s t))))

pub loop-variable-init : goal.loop-variable-init
loop-variable-init c = passed_none _ _ _ (start_below _ c.args.from _ (start c))

pub loop-variable-smaller : goal.loop-variable-smaller
loop-variable-smaller c =
    let set = c.loop-variable.rest in
    let first = c.least-first.result in
    let least = least_of set _ c.is_empty.ensures (not_from_false _ c.loop-variable-test.true) first c.least-first.ensures in
    let own = group (goal.at.loop-variable-smaller c).After-join-alike first ∙ or_right (agree_in _ first first) (ltb first capacity && eqb first first) (and_both _ _ (lt-ltb first capacity least.below) (eq-eqb first first refl)) in
    count_more capacity _ _ (λ s h. and_left (has set s) _ (sym (c.narrow-rest.ensures s) ∙ h)) first least.below
    (c.narrow-rest.ensures first ∙ ap (λ b. has set first && not b) own ∙ and-false (has set first)) least.there

pub loop-variable-preserved : goal.loop-variable-preserved
loop-variable-preserved c =
    passed_part _ _ _ _ _ true true (has c.join-alike.result) c.narrow-rest.ensures (sym c.if-leads_into.true ∙ asked (goal.at.loop-variable-preserved c).After-leads_into (group (goal.at.loop-variable-preserved c).After-join-alike))
    c.loop-variable.invariant

pub returns-else-leads_into : goal.returns-else-leads_into
returns-else-leads_into c =
    moved (goal.at.returns-else-leads_into c).After-meet-rest false (sym (passed_not _ _ _ _ _ c.loop-variable.invariant (sym (asked (goal.at.returns-else-leads_into c).After-leads_into (group (goal.at.returns-else-leads_into c).After-join-alike)) ∙ c.if-leads_into.false)))

pub returns : goal.returns
returns c = moved (goal.at.returns c).After-meet-rest true
    (passed_all _ _ _ _ _ (none_left _ _ c.is_empty.ensures (not_from_true _ c.loop-variable-test.false)) c.loop-variable.invariant)
