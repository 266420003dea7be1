-- By cases on the number; the code's n is the machine's.
use Prim.Native.Nat.{ℕ}
use mathlib.Core.Path.{◌≡◌, ◌∙◌, sym, ap, ap₂, refl}
use mathlib.Core.Bool.{◌&&◌}
use borrow.Author.Tests.{ne_eqb}
use Rattle.states.specs.Search.{given}
use Rattle.semantics.specs.Conditions.{is_false, c34, c36, c37, c38, c45, c46}
use Rattle.search.specs.Named.{naming}
use Rattle.rules.specs.Asking.{states_for}
use Rattle.rules.specs.Words.{word_set, word_relation}
use Rattle.rules.proofs.Searches.{in_set_and}
use Rattle.rules.proofs.Naming.{other, plain, done, reading_silent, found_as, stay_same}
use Rattle.rules.proofs.conditional.if_states.Goals as goal

pub returns-else-number-eq46 : goal.returns-else-number-eq46
unfolding c34 c36 c37 c38 c45
returns-else-number-eq46 c fits child =
    rw c.states_in-n.ensures at (c.common_states.ensures fits)
    ∙ sym (ap naming (reading_silent _ _ 45 _ _ _ _ (other refl (other refl (other refl done)))
    (plain _ refl (plain _ refl (plain _ refl (plain _ refl (other (ne_eqb _ 46 c.if-number-eq46.false) done)))))))

pub returns-then-number-eq46 : goal.returns-then-number-eq46
unfolding states_for given c46 word_relation
returns-then-number-eq46 c fits child =
    let n = c.states_in-n.ensures in
    let from : (s : ℕ) → _ ≡ (word_set _ _ _ s && is_false _ _ s) = λ s. c.meet-from.ensures s ∙ ap₂ ◌&&◌ (rw n at (c.set_at.ensures s)) (c.truths_at-test.ensures.failing s) in
    rw c.if-number-eq46.true
    (found_as _ _ (rw n at c.least_state.ensures)
    (stay_same _ _ _ _ from (rw n at c.diagonal.ensures) c.rows_of.ensures ∙ in_set_and _ _ _ _))
