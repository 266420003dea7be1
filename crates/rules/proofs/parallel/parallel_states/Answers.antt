-- By cases on the number; the reach by the rows is the whole reach.
use mathlib.Core.Path.{◌∙◌, sym, ap, refl}
use mathlib.Core.Bool.{◌&&◌}
use borrow.Author.Tests.{ne_eqb}
use Rattle.states.specs.Search.{given}
use Rattle.states.specs.Relations.{reach}
use Rattle.semantics.specs.Conditions.{c34, c36, c65, c66}
use Rattle.search.specs.Named.{naming}
use Rattle.rules.specs.Asking.{states_for}
use Rattle.rules.specs.Words.{word_relation}
use Rattle.rules.proofs.Words.{anyone, anyone_reach}
use Rattle.rules.proofs.Naming.{other, plain, done, before_silent, found_as, met_same}
use Rattle.rules.proofs.parallel.parallel_states.Goals as goal

pub returns-else-number-eq66 : goal.returns-else-number-eq66
unfolding c34 c36 c65
returns-else-number-eq66 c fits =
    c.common_states.ensures fits
    ∙ sym (ap naming (before_silent _ _ _ (plain _ refl (plain _ refl (plain _ refl (plain _ refl (plain _ refl
    (other (ne_eqb _ 66 c.if-number-eq66.false) done))))))))

pub returns-then-number-eq66 : goal.returns-then-number-eq66
unfolding states_for given c66 word_relation
returns-then-number-eq66 c fits =
    let a = c.args in
    let w = word_relation a.n a.work.now in
    let moves = anyone a.n a.work.now a.own.r a.left.g a.right.g in
    rw c.if-number-eq66.true
    (found_as _ _ c.least_pair.ensures
    (met_same a.n _ _ _ _ (λ s t. w a.left.q s t && w a.right.q s t && reach a.n moves s t) c.set_at.ensures c.joint_ends-ends.ensures
    (λ s t low. ap (λ b. w a.left.q s t && w a.right.q s t && b) (anyone_reach a.n a.work.now a.own.r a.left.g a.right.g _ c.changes-changed.ensures s t low))
    c.rows_of.ensures))
