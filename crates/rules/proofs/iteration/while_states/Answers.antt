-- By cases on the number; the code's n is the machine's, and the sets are the states where the test is true and false.
use native.Mathlib.Omega.{arith}
use Prim.Native.Nat.{ℕ}
use mathlib.Core.Path.{◌≡◌, ◌∙◌, sym, ap, ap₂, refl}
use mathlib.Core.Bool.{◌&&◌}
use lib.Dec.{eqb}
use borrow.Author.Tests.{ne_eqb}
use Rattle.states.specs.Search.{given}
use Rattle.semantics.specs.Conditions.{is_true, is_false, c34, c36, c37, c38, c50, c51, c52, c53, c54, c55, c56, c57}
use Rattle.evaluation.proofs.Laws.{states_most}
use Rattle.search.specs.Named.{naming}
use Rattle.rules.specs.Asking.{states_for}
use Rattle.rules.specs.Words.{word_set, word_relation}
use Rattle.rules.proofs.Searches.{in_set_and}
use Rattle.rules.proofs.Words.{in_all}
use Rattle.rules.proofs.Naming.{other, plain, done, before_silent, found_as, one_same, off_same, into_same, or_same, exit_same, chain_same}
use Rattle.rules.proofs.iteration.while_states.Goals as goal

pub returns-in_default : goal.returns-in_default
unfolding c34 c36 c37 c38 c50
returns-in_default c fits child =
    rw c.states_in-n.ensures at (c.common_states.ensures fits)
    ∙ sym (ap naming (before_silent _ _ _ (plain _ refl (plain _ refl (plain _ refl (plain _ refl (plain _ refl
    (other (ne_eqb _ 51 (omega arith)) (other (ne_eqb _ 57 (omega arith)) (other (ne_eqb _ 52 (omega arith)) (other (ne_eqb _ 53 (omega arith))
    (other (ne_eqb _ 54 (omega arith)) (other (ne_eqb _ 55 (omega arith)) (other (ne_eqb _ 56 (omega arith)) done))))))))))))))

pub returns-in-51 : goal.returns-in-51
unfolding states_for given c51 word_relation c52 c53 c54 c55 c56 c57
returns-in-51 c fits child =
    let n = c.states_in-n.ensures in
    rw c.in-51.is
    (found_as _ _ (rw n at c.least_state.ensures)
    (off_same _ _ _ (rw n at c.diagonal.ensures) c.empty.ensures c.rows_of-order.ensures))

pub returns-in-52 : goal.returns-in-52
unfolding states_for given c51 word_relation c52 c53 c54 c55 c56 c57
returns-in-52 c fits child =
    let n = c.states_in-n.ensures in
    let from : (s : ℕ) → _ ≡ (word_set _ _ _ s && is_true _ _ s) = λ s. c.meet.ensures s ∙ ap₂ ◌&&◌ (rw n at (c.set_at-p.ensures s)) (c.truths_at-test.ensures.holding s) in
    rw c.in-52.is
    (found_as _ _ (rw n at c.least_state-in-52.ensures) (one_same _ _ _ _ _ from (λ s l low. rw n at (c.set_at-inside.ensures s))
    ∙ in_set_and _ _ _ _))

pub returns-in-53 : goal.returns-in-53
unfolding states_for given c51 word_relation c52 c53 c54 c55 c56 c57
returns-in-53 c fits child =
    let n = c.states_in-n.ensures in
    let inside = rw n at c.set_at-inside.ensures in
    let from : (s : ℕ) → _ ≡ (word_set _ _ _ s && word_set _ _ _ s) = λ s. c.meet-in-53.ensures s ∙ ap₂ ◌&&◌ (rw n at (c.set_at-p.ensures s)) (inside s) in
    rw c.in-53.is
    (found_as _ _ (rw n at c.least_pair.ensures)
    (into_same _ _ _ _ _ _ from inside c.rows_of-rely.ensures (c.all_into.ensures _) ∙ in_set_and _ _ _ _))

pub returns-in-54 : goal.returns-in-54
unfolding states_for given c51 word_relation c52 c53 c54 c55 c56 c57
returns-in-54 c fits child =
    let n = c.states_in-n.ensures in
    let falsity = c.truths_at-test.ensures.failing in
    let from : (s : ℕ) → _ ≡ (word_set _ _ _ s && is_false _ _ s) = λ s. c.meet-in-54.ensures s ∙ ap₂ ◌&&◌ (rw n at (c.set_at-p.ensures s)) (falsity s) in
    rw c.in-54.is
    (found_as _ _ (rw n at c.least_pair-in-54.ensures)
    (into_same _ _ _ _ _ _ from falsity c.rows_of-rely.ensures (c.all_into-in-54.ensures _) ∙ in_set_and _ _ _ _))

pub returns-in-55 : goal.returns-in-55
unfolding states_for given c51 word_relation c52 c53 c54 c55 c56 c57
returns-in-55 c fits child =
    let n = c.states_in-n.ensures in
    rw c.in-55.is
    (found_as _ _ (rw n at c.least_pair-in-55.ensures)
    (or_same _ _ _ _ eqb (λ s t. refl) (rw n at c.set_at-p.ensures) c.rows_of-rely.ensures c.rows_of-order.ensures
    (rw n at c.with_same.ensures)))

pub returns-in-56 : goal.returns-in-56
unfolding states_for given c51 word_relation c52 c53 c54 c55 c56 c57
returns-in-56 c fits child =
    let n = c.states_in-n.ensures in
    let p = rw n at c.set_at-p.ensures in
    let into : (s : ℕ) → _ ≡ (word_set _ _ _ s && is_false _ _ s) = λ s. c.meet-in-56.ensures s ∙ ap₂ ◌&&◌ (p s) (c.truths_at-test.ensures.failing s) in
    rw c.in-56.is
    (found_as _ _ (rw n at c.least_pair-in-56.ensures)
    (exit_same _ _ _ _ _ _ p into c.rows_of-order.ensures c.rows_of.ensures (rw n at c.exits.ensures)))

pub returns-in-57 : goal.returns-in-57
unfolding states_for given c51 word_relation c52 c53 c54 c55 c56 c57
returns-in-57 c fits child =
    let n = c.states_in-n.ensures in
    let order = c.rows_of-order.ensures in
    rw c.in-57.is
    (found_as _ _ (rw n at c.least_chain.ensures)
    (chain_same _ _ _ (λ s. refl) order order order ∙ in_all _ _ _ (states_most _) (rw n at c.below.ensures)))
