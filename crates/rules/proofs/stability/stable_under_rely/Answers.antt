-- If no state starts a pair of R, nothing is to be checked; else it is enough to look at the states of P, and ends of Q, that start one.
use Prim.Native.Nat.{ℕ}
use mathlib.Core.Path.{◌≡◌, ◌∙◌, sym, ap}
use mathlib.Core.Bool.{◌&&◌}
use lib.Dec.{ltb}
use Rattle.states.specs.Search.{any}
use Rattle.states.specs.Sets.{capacity, has}
use Rattle.states.proofs.Members.{none_in}
use Rattle.semantics.specs.Conditions.{c31, c32, c33}
use Rattle.rules.specs.Words.{word_set, word_relation}
use Rattle.rules.proofs.Searches.{in_set_intro, in_set_same, in_set_starting, in_set_none}
use Rattle.rules.proofs.Words.{set_small, relation_small, leads_cong, all_through}
use Rattle.rules.proofs.stability.stable_under_rely.Goals.{After-meet-from, After-starting-starts}
use Rattle.rules.proofs.stability.stable_under_rely.Goals as goal

-- The states that start a pair of R, and those of P that do.
starts : (c : After-starting-starts) → let a = c.args in
    (s : ℕ) → has c.starting-starts.result s ≡ (ltb s capacity && any a.n (word_relation a.n a.work.now a.own.r s))
unfolding word_relation
starts c = rw c.rows_of.ensures at c.starting-starts.ensures

from : (c : After-meet-from) → let a = c.args in
    (s : ℕ) → has c.meet-from.result s ≡ (word_set a.n a.work.now a.own.p s && has c.starting-starts.result s)
from c s = c.meet-from.ensures s ∙ ap (λ b. b && has c.starting-starts.result s) (c.set_at-p.ensures s)

pub returns-then-is_empty : goal.returns-then-is_empty
unfolding c31 c32 c33
returns-then-is_empty c =
    let a = c.args in
    let small = set_small a.n a.work.now a.own.p in
    let ends = relation_small a.n a.work.now a.own.q in
    let none = none_in _ _ c.is_empty.ensures c.if-is_empty.true in record {
      pre = sym (in_set_none _ _ _ _ _ small (starts (goal.at.returns-then-is_empty c).After-starting-starts) none);
      before = sym (in_set_none _ _ _ _ _ small (starts (goal.at.returns-then-is_empty c).After-starting-starts) none);
      after = sym (in_set_intro _ _ _ (λ s l e. in_set_none _ _ _ _ _ (ends s) (starts (goal.at.returns-then-is_empty c).After-starting-starts) none));
    }

pub returns : goal.returns
unfolding c31 c32 c33
returns c =
    let a = c.args in
    let small = set_small a.n a.work.now a.own.p in
    let ends = relation_small a.n a.work.now a.own.q in
    let p = c.set_at-p.ensures in record {
      pre = c.leads_into.ensures ∙ leads_cong _ _ _ _ _ _ (from (goal.at.returns c).After-meet-from) p ∙ in_set_starting _ _ _ _ _ small (starts (goal.at.returns c).After-starting-starts);
      before = c.chains_into.ensures ∙ all_through a.n a.work.now a.own.r _ _ _ _ (from (goal.at.returns c).After-meet-from) c.below-states.ensures
          ∙ in_set_starting _ _ _ _ _ small (starts (goal.at.returns c).After-starting-starts);
      after = c.chains_into-2.ensures ∙ in_set_same _ _ _ _ _ p (λ s. in_set_starting _ _ _ _ _ (ends s) (starts (goal.at.returns c).After-starting-starts));
    }
