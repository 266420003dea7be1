-- The end of the store is s or lies in row s of G.
use mathlib.Core.Path.{◌∙◌, ap₂}
use mathlib.Core.Bool.{◌||◌}
use Rattle.states.specs.Sets.{capacity}
use Rattle.states.specs.Search.{implies}
use Rattle.states.proofs.Search.{all_cong}
use Rattle.rules.proofs.Searches.{small_within}
use Rattle.rules.proofs.Words.{rel_small}
use Rattle.rules.proofs.Rows.{or_itself}
use Rattle.rules.proofs.assignment.guaranteed_at.Goals as goal

pub returns : goal.returns
returns c =
    let a = c.args in
    c.included.ensures
    ∙ all_cong capacity _ _ (λ t l. ap₂ implies (c.row.ensures t)
    (c.join-allowed.ensures t ∙ ap₂ ◌||◌ (c.single.ensures t) (c.row_at.ensures t) ∙ or_itself a.s t _ l))
    ∙ small_within a.n _ _ (rel_small a.n a.after.now a.s)
