-- In P the two rows are met with the reach; outside P there is no end.
use mathlib.Core.Path.{◌∙◌, sym, ap₂}
use mathlib.Core.Bool.{◌&&◌}
use borrow.Author.Rules.{rules}
use Rattle.rules.proofs.Words.{reached_set}
use Rattle.composition.proofs.tables.post_at.Goals as goal

pub returns-then-holds_state : goal.returns-then-holds_state
returns-then-holds_state c t =
    rw (sym c.holds_state.ensures ∙ c.if-holds_state.true)
    (c.meet.ensures t
    ∙ ap₂ ◌&&◌ (c.meet-both.ensures t ∙ ap₂ ◌&&◌ (c.row.ensures t) (c.row-then-holds_state.ensures t))
    (reached_set _ _ _ _ _ (search rules) c.single.ensures c.reach.ensures t))

pub returns-else-holds_state : goal.returns-else-holds_state
returns-else-holds_state c t = rw (sym c.holds_state.ensures ∙ c.if-holds_state.false) (c.empty.ensures t)
