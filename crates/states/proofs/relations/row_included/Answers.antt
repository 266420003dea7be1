-- Inclusion of the two rows over all states is the same as over n states, and is tested only if s is in the set.
use mathlib.Core.Path.{◌∙◌, refl, ap₂, sym}
use Rattle.states.specs.Search.{implies}
use Rattle.states.specs.Sets.{capacity}
use Rattle.states.proofs.Search.{all_cong}
use Rattle.states.proofs.Rows.{row_all}
use Rattle.states.proofs.relations.row_included.Goals as goal

pub returns-then-holds_state : goal.returns-then-holds_state
unfolding implies
returns-then-holds_state c = rw (sym c.holds_state.ensures ∙ c.if-holds_state.true)
    (c.included.ensures ∙ all_cong capacity _ _ (λ t l. ap₂ implies (c.row.ensures t) (c.row-then-holds_state.ensures t))
    ∙ row_all implies refl _ _ _ _)

pub returns-else-holds_state : goal.returns-else-holds_state
unfolding implies
returns-else-holds_state c = rw (sym c.holds_state.ensures ∙ c.if-holds_state.false)
