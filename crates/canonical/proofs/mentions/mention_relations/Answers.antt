-- R and G, and then by cases of the rule.
use mathlib.Core.List.{[], ◌∷◌}
use borrow.Author.Rules.{rules}
use borrow.Author.Tests.{eq-eqb, ne_eqb}
use Rattle.form.specs.Mentions.{relations_of}
use Rattle.canonical.specs.Refinement.{Listing}
use Rattle.canonical.proofs.Order.{named_below, listing_after, after_again}
use Rattle.canonical.proofs.mentions.mention_relations.Goals.{After-mention_two-after}
use Rattle.canonical.proofs.mentions.mention_relations.Goals as goal

-- After R and G there is room for the others.
listed : (c : After-mention_two-after) → Listing c.mention_two-after.new.order c.mention_two-after.result
listed c =
    let a = c.args in
    listing_after _ _ _ _ _ c.requires (search rules) (named_below a.reps.now (a.node.names.r ∷ a.node.names.g ∷ [])) c.mention_two-after.ensures

pub mention_two-requires : goal.mention_two-requires
unfolding relations_of
mention_two-requires c = listed (goal.at.mention_two-requires c).After-mention_two-after

pub returns-then-node-eq-WHILE : goal.returns-then-node-eq-WHILE
unfolding relations_of
returns-then-node-eq-WHILE c = rw (eq-eqb _ 5 c.if-node-eq-WHILE.true)
    (after_again _ _ _ _ _ _ _ _ c.mention_two-after.ensures c.mention_two.ensures)

pub mention_one-requires : goal.mention_one-requires
unfolding relations_of
mention_one-requires c = listed (goal.at.mention_one-requires c).After-mention_two-after

pub returns : goal.returns
unfolding relations_of
returns c = rw (ne_eqb _ 5 c.if-node-eq-WHILE.false)
    (after_again _ _ _ _ _ _ _ _ c.mention_two-after.ensures c.mention_one.ensures)
