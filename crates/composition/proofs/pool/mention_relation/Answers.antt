-- A relation that is there keeps its place; a new one is stored after the others, if there is room.
use native.Mathlib.Omega.{arith}
use borrow.Author.Rules.{rules}
use Rattle.states.specs.Relations.{rel}
use Rattle.composition.specs.Refinement.{relations_held}
use Rattle.composition.proofs.Mentioning.{mention_there, mention_new, mention_over, mentioned_from}
use Rattle.composition.proofs.Stored.{relations_stored}
use Rattle.composition.proofs.pool.mention_relation.Goals as goal

pub returns-then-count-gt-MOST_TABLES : goal.returns-then-count-gt-MOST_TABLES
unfolding relations_held
returns-then-count-gt-MOST_TABLES c seen k = mention_over seen _ _ _ _ (search rules) (k.1 (search rules))

pub returns-then-place-count : goal.returns-then-place-count
unfolding relations_held
returns-then-place-count c seen k = mentioned_from _ seen _ _ _ _ k (omega arith) (mention_there _ _ _ _ (search rules) (search rules))

pub returns-then-count-eq-MOST_TABLES : goal.returns-then-count-eq-MOST_TABLES
unfolding relations_held
returns-then-count-eq-MOST_TABLES c seen k = mentioned_from _ seen _ _ _ _ k (omega arith) (mention_new _ _ _ _ _ (search rules) (omega arith) (λ l. absurd (omega arith)))

pub returns : goal.returns
unfolding relations_held
returns c seen k = let a = c.args in
    mentioned_from _ seen _ _ _ _ k (omega arith) (mention_new _ _ _ _ _ (search rules) (omega arith)
    (λ l. relations_stored a.n a.pool.now a.count (rel a.n a.rows.now) _ c.store_relation.ensures))
