-- The first i sets have been mentioned, and there is room for them.
use mathlib.Core.Path.{◌≡◌, refl, ◌∙◌, ap, fun_ext}
use native.Mathlib.Omega.{arith}
use borrow.Author.Rules.{rules}
use lib.ListN.{length-set}
use Rattle.derivation.specs.Tables.{tabulate}
use Rattle.rules.specs.Words.{word_set}
use Rattle.form.specs.Members.{set_where}
use Rattle.composition.specs.Refinement.{sets_held, Mentioned}
use Rattle.composition.proofs.Mentioning.{mentioned_by, listed_none, listed_next, merged_over, merged_done, merged_from, merged_full}
use Rattle.composition.proofs.pool.mention_sets.Goals.{After-mention_set-found}
use Rattle.composition.proofs.pool.mention_sets.Goals as goal

-- The mention of this round, by the value of its set.
next : (c : After-mention_set-found) →
    let a = c.args in
    Mentioned (sets_held a.n c.loop-i.pool c.loop-i.total) (sets_held a.n c.mention_set-found.new.pool c.mention_set-found.result.count)
    (set_where a.n (word_set a.n a.words.now c.loop-i.i)) c.mention_set-found.result
next c =
    let n = c.args.n in
    mentioned_by _ _ _ _ _ (ap (set_where n) (fun_ext c.set_at.ensures)) c.mention_set-found.ensures

pub loop-i-init : goal.loop-i-init
unfolding sets_held tabulate
loop-i-init c = (omega arith, search rules, refl, refl, listed_none _ _)

pub returns-then-count-gt-MOST_TABLES : goal.returns-then-count-gt-MOST_TABLES
unfolding sets_held
returns-then-count-gt-MOST_TABLES c seen k = merged_full seen _ _ _ _ (search rules) (k.1 (search rules))

pub returns-then-found-gt-MOST_TABLES : goal.returns-then-found-gt-MOST_TABLES
unfolding sets_held
returns-then-found-gt-MOST_TABLES c seen k =
    merged_from _ seen _ _ _ _ _ k (omega arith)
    (merged_over _ _ c.loop-i.i _ _ c.loop-i.invariant.4 _ _ (next (goal.at.returns-then-found-gt-MOST_TABLES c).After-mention_set-found) (search rules) _ (omega arith) _ _)

pub loop-i-preserved : goal.loop-i-preserved
unfolding sets_held
loop-i-preserved c = (
  omega arith,
  omega arith,
  omega (arith, c.mention_set-found.auto.pool),
  length-set c.loop-i.names c.loop-i.i c.mention_set-found.result.place ∙ c.loop-i.invariant.3,
  listed_next _ _ c.loop-i.i _ _ c.loop-i.invariant.4 _ _ (next (goal.at.loop-i-preserved c).After-mention_set-found) (omega arith) (omega arith),
)

pub returns : goal.returns
unfolding sets_held
returns c seen k = let all : c.loop-i.i ≡ c.args.tables = omega arith in
    merged_from _ seen _ _ _ _ _ k (omega arith) (merged_done _ _ _ _ _ c.loop-i.invariant.1 (rw all at c.loop-i.invariant.4))
