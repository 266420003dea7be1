-- If whole relates s to every state, every chain ends in its row; else b leads from the ends of a into that row.
use mathlib.Core.Path.{◌∙◌, sym, ap, ap₂}
use mathlib.Core.Bool.{◌&&◌}
use Rattle.states.specs.Search.{implies}
use Rattle.states.specs.Sets.{capacity, has}
use Rattle.states.proofs.Search.{all_cong}
use Rattle.rules.proofs.Searches.{full_within}
use Rattle.rules.proofs.Words.{relation_small, leads_cong}
use Rattle.rules.proofs.tables.row_chains_into.Goals as goal

pub returns-then-included : goal.returns-then-included
returns-then-included c =
    let a = c.args in
    sym (full_within a.n _ _ _ (relation_small a.n a.work.now a.b)
    (sym (all_cong capacity _ _ (λ t l. ap₂ implies (c.below.ensures t) (c.row_at-into.ensures t))) ∙ sym c.included.ensures
    ∙ c.if-included.true))

pub returns-else-included : goal.returns-else-included
returns-else-included c =
    let a = c.args in
    c.leads_into.ensures
    ∙ leads_cong _ _ _ _ _ _ (λ t. c.meet.ensures t ∙ ap (λ b. b && has a.through t) (c.row_at.ensures t))
    c.row_at-into.ensures
