-- The code tests membership in the set as the search does.
use mathlib.Core.Path.{◌∙◌, sym}
use Rattle.states.proofs.Search.{holds_must}
use Rattle.rules.proofs.Searches.{at_member, at_other}
use Rattle.rules.proofs.tables.stays_at.Goals as goal

pub returns-then-holds_state : goal.returns-then-holds_state
returns-then-holds_state c = c.holds_state-then-holds_state.ensures ∙ c.row_at.ensures _ ∙ sym (holds_must _)
    ∙ at_member _ _ (sym c.holds_state.ensures ∙ c.if-holds_state.true)

pub returns-else-holds_state : goal.returns-else-holds_state
returns-else-holds_state c = at_other _ _ (sym c.holds_state.ensures ∙ c.if-holds_state.false)
