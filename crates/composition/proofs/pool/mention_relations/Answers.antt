-- The first i relations have been mentioned, and there is room for them.
use mathlib.Core.Path.{◌≡◌, refl, ◌∙◌, ap}
use native.Mathlib.Omega.{arith}
use borrow.Author.Rules.{rules}
use lib.ListN.{length-set}
use Rattle.states.specs.Relations.{rel}
use Rattle.derivation.specs.Tables.{tabulate}
use Rattle.rules.specs.Words.{word_relation}
use Rattle.form.specs.Members.{relation_where}
use Rattle.composition.specs.Refinement.{relations_held, Mentioned}
use Rattle.composition.proofs.Mentioning.{mentioned_by, listed_none, listed_next, merged_over, merged_done, merged_from, merged_full}
use Rattle.composition.proofs.pool.mention_relations.Goals.{After-mention_relation-found}
use Rattle.composition.proofs.pool.mention_relations.Goals as goal

-- The mention of this round, by the value of its relation.
next : (c : After-mention_relation-found) →
    let a = c.args in
    Mentioned (relations_held a.n c.loop-i.pool c.loop-i.total) (relations_held a.n c.mention_relation-found.new.pool c.mention_relation-found.result.count)
    (relation_where a.n (word_relation a.n a.words.now c.loop-i.i)) c.mention_relation-found.result
unfolding word_relation
next c =
    let n = c.args.n in
    mentioned_by _ _ _ _ _ (ap (λ w. relation_where n (rel n w)) c.rows_of.ensures) (c.mention_relation-found.ensures _ (λ l. refl, λ l. absurd (omega arith)))

pub loop-i-init : goal.loop-i-init
unfolding relations_held tabulate
loop-i-init c = (omega arith, search rules, refl, refl, listed_none _ _)

pub returns-then-count-gt-MOST_TABLES : goal.returns-then-count-gt-MOST_TABLES
unfolding relations_held
returns-then-count-gt-MOST_TABLES c seen k = merged_full seen _ _ _ _ (search rules) (k.1 (search rules))

pub returns-then-found-gt-MOST_TABLES : goal.returns-then-found-gt-MOST_TABLES
unfolding relations_held
returns-then-found-gt-MOST_TABLES c seen k =
    merged_from _ seen _ _ _ _ _ k (omega arith)
    (merged_over _ _ c.loop-i.i _ _ c.loop-i.invariant.4 _ _ (next (goal.at.returns-then-found-gt-MOST_TABLES c).After-mention_relation-found) (search rules) _ (omega arith) _ _)

pub loop-i-preserved : goal.loop-i-preserved
unfolding relations_held
loop-i-preserved c = (
  omega arith,
  omega arith,
  omega (arith, c.mention_relation-found.auto.pool),
  length-set c.loop-i.names c.loop-i.i c.mention_relation-found.result.place ∙ c.loop-i.invariant.3,
  listed_next _ _ c.loop-i.i _ _ c.loop-i.invariant.4 _ _ (next (goal.at.loop-i-preserved c).After-mention_relation-found) (omega arith) (omega arith),
)

pub returns : goal.returns
unfolding relations_held
returns c seen k = let all : c.loop-i.i ≡ c.args.tables = omega arith in
    merged_from _ seen _ _ _ _ _ k (omega arith) (merged_done _ _ _ _ _ c.loop-i.invariant.1 (rw all at c.loop-i.invariant.4))
