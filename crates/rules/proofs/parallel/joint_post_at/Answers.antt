-- What both rows and the reach have in common lies in the row of Q.
use Prim.Native.Nat.{ℕ}
use mathlib.Core.Path.{◌≡◌, ◌∙◌, sym, ap, ap₂}
use mathlib.Core.Bool.{Bool, true, ◌&&◌}
use Rattle.states.specs.Search.{implies, all, must, given, holds}
use Rattle.states.specs.Sets.{capacity, has}
use Rattle.states.proofs.Search.{and_left, all_cong}
use Rattle.semantics.specs.Conditions.{in_set}
use Rattle.rules.specs.Words.{word_set, word_relation}
use Rattle.rules.proofs.Searches.{at_member, at_other, part_within, small_within}
use Rattle.rules.proofs.Words.{set_small, relation_small, reached_set}
use Rattle.rules.proofs.parallel.joint_post_at.Goals.{After-meet-both, After-row_at-ends, Then-holds_state}
use Rattle.rules.proofs.parallel.joint_post_at.Goals as goal

-- What the two rows share, and that s is in P.
both : (c : After-meet-both) → let a = c.args in
    (t : ℕ) → has c.meet-both.result t ≡ (word_relation a.n a.work.now a.left a.s t && word_relation a.n a.work.now a.right a.s t)
both c t = c.meet-both.ensures t ∙ ap₂ ◌&&◌ (c.row_at.ensures t) (c.row_at-then-holds_state.ensures t)

member : (c : Then-holds_state) → let a = c.args in word_set a.n a.work.now a.p a.s ≡ true
member c = sym (c.holds_state.ensures ∙ c.set_at.ensures _) ∙ c.if-holds_state.true

-- The condition over the words, with any property in place of the reach.
by_words : (c : After-row_at-ends) (x : ℕ → Bool) → let a = c.args in
    ((t : ℕ) → has c.meet-both.result t ≡ (word_relation a.n a.work.now a.left a.s t && word_relation a.n a.work.now a.right a.s t))
    → word_set a.n a.work.now a.p a.s ≡ true
    → all capacity (λ t. implies (has c.meet-both.result t && x t) (has c.row_at-ends.result t))
    ≡ holds (given (word_set a.n a.work.now a.p a.s) (in_set a.n
    (λ t. word_relation a.n a.work.now a.left a.s t && word_relation a.n a.work.now a.right a.s t && x t)
    (λ t. must (word_relation a.n a.work.now a.q a.s t))))
by_words c x shared inside =
    let a = c.args in
    all_cong capacity _ _ (λ t l. ap₂ (λ b q. implies (b && x t) q) (shared t) (c.row_at-ends.ensures t))
    ∙ small_within a.n _ _ (λ t h. relation_small a.n a.work.now a.left a.s t (and_left _ _ (and_left _ (x t) h)))
    ∙ at_member _ _ inside

pub returns-then-included : goal.returns-then-included
returns-then-included c = sym (part_within capacity _ _ _ (sym c.included.ensures ∙ c.if-included.true)) ∙ by_words (goal.at.returns-then-included c).After-row_at-ends _ (both (goal.at.returns-then-included c).After-meet-both) (member (goal.at.returns-then-included c).Then-holds_state)

pub returns-else-included : goal.returns-else-included
returns-else-included c =
    let a = c.args in
    let low = (set_small a.n a.work.now a.p a.s (member (goal.at.returns-else-included c).Then-holds_state)).0 in
    let reached = reached_set a.n a.moves.now a.s _ _ low c.single.ensures c.reach.ensures in
    c.included-else-included.ensures
    ∙ all_cong capacity _ _ (λ t l. ap (λ b. implies b (has c.row_at-ends.result t)) (c.meet.ensures t ∙ ap (λ b. has c.meet-both.result t && b) (reached t)))
    ∙ by_words (goal.at.returns-else-included c).After-row_at-ends _ (both (goal.at.returns-else-included c).After-meet-both) (member (goal.at.returns-else-included c).Then-holds_state)

pub returns-else-holds_state : goal.returns-else-holds_state
returns-else-holds_state c = at_other _ _ (sym (c.holds_state.ensures ∙ c.set_at.ensures _) ∙ c.if-holds_state.false)
