-- A set that is there keeps its place; a new one is stored after the others, if there is room.
use Prim.Native.Nat.{◌+◌}
use native.Mathlib.Omega.{arith}
use mathlib.Core.Path.{◌∙◌, ap}
use borrow.Author.Rules.{rules}
use Rattle.composition.specs.Refinement.{sets_held}
use Rattle.composition.proofs.Mentioning.{mention_there, mention_new}
use Rattle.composition.proofs.Stored.{set_stored}
use Rattle.composition.proofs.pool.mention_set.Goals as goal

pub returns-then-place-count : goal.returns-then-place-count
unfolding sets_held
returns-then-place-count c = mention_there _ _ _ _ (search rules) (search rules)

pub returns-then-count-eq-MOST_TABLES : goal.returns-then-count-eq-MOST_TABLES
unfolding sets_held
returns-then-count-eq-MOST_TABLES c = mention_new _ _ _ _ _ (search rules) (omega arith) (λ l. absurd (omega arith))

pub returns : goal.returns
unfolding sets_held
returns c = let a = c.args in
    mention_new _ _ _ _ _ (search rules) (omega arith)
    (λ l. ap (λ words. sets_held a.n words (a.count + 1)) c.put_entry.ensures
    ∙ set_stored a.n a.pool.now a.count a.set (omega arith))
