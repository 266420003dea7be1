-- The row of R lies in that of W joined with s itself.
use mathlib.Core.Path.{◌∙◌, sym, ap, ap₂}
use mathlib.Core.Bool.{◌&&◌, ◌||◌}
use lib.Dec.{eqb}
use borrow.Author.Tests.{lt-ltb}
use Rattle.states.specs.Sets.{capacity}
use Rattle.states.specs.Search.{implies}
use Rattle.states.proofs.Search.{all_cong}
use Rattle.rules.proofs.Searches.{at_member, at_other, small_within}
use Rattle.rules.proofs.Words.{relation_small}
use Rattle.rules.proofs.iteration.rely_descends_at.Goals as goal

pub returns-then-holds_state : goal.returns-then-holds_state
returns-then-holds_state c =
    let a = c.args in
    c.included.ensures
    ∙ all_cong capacity _ _ (λ t l. ap₂ implies (c.row_at.ensures t)
    (c.join.ensures t
    ∙ ap₂ ◌||◌ (c.single.ensures t ∙ ap (λ b. b && eqb a.s t) (lt-ltb t capacity l)) (c.row_at-then-holds_state.ensures t)))
    ∙ small_within a.n _ _ (relation_small a.n a.work.now a.r a.s)
    ∙ at_member _ _ (sym (c.holds_state.ensures ∙ c.set_at.ensures _) ∙ c.if-holds_state.true)

pub returns-else-holds_state : goal.returns-else-holds_state
returns-else-holds_state c = at_other _ _ (sym (c.holds_state.ensures ∙ c.set_at.ensures _) ∙ c.if-holds_state.false)
