-- The pairs that start in what was reached before the last round end in what is reached. Where that round added no state, all is reached.
use mathlib.Core.Path.{sym, ◌∙◌}
use Rattle.states.specs.Sets.{capacity}
use Rattle.states.specs.Relations.{rel}
use Rattle.states.proofs.Search.{implies_at, all_at}
use Rattle.states.proofs.Rows.{rel_between}
use Rattle.states.proofs.Members.{has_below}
use Rattle.states.proofs.Spread.{spread_none, spread_more, spread_less, spread_all}
use Rattle.states.proofs.relations.reach.Goals as goal

pub loop-earlier-init : goal.loop-earlier-init
loop-earlier-init c = spread_none _ _ _ c.empty-earlier.ensures

pub loop-earlier-smaller : goal.loop-earlier-smaller
loop-earlier-smaller c = let test = c in
    spread_less _ _ (rel_between _ _) _ _ _ test.loop-earlier.invariant capacity
    (sym test.included.ensures ∙ c.loop-earlier-test.true)

pub loop-earlier-preserved : goal.loop-earlier-preserved
loop-earlier-preserved c = let l = c.loop-earlier in
    spread_more _ (rel _ _) (rel_between _ _) _ _ _ l.invariant _ _ _ c.narrow-added.ensures c.image.ensures c.join-reached.ensures

pub returns : goal.returns
returns c = let l = c.loop-earlier in
    let none = sym c.included.ensures ∙ c.loop-earlier-test.false in
    spread_all _ _ (rel_between _ _) _ _ _ l.invariant (λ s e. implies_at _ _ (all_at capacity _ none s (has_below l.reached s e)) e)
