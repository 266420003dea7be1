-- The sets given by their members.
use mathlib.Core.Path.{◌∙◌, ap₂}
use mathlib.Core.Bool.{◌||◌}
use Rattle.rules.proofs.Words.{same_cong}
use Rattle.rules.proofs.tables.row_is_join.Goals as goal

pub returns : goal.returns
returns c = let a = c.args in
    c.same_set.ensures
    ∙ same_cong a.n _ _ _ _ c.row_at.ensures
    (λ t. c.join.ensures t ∙ ap₂ ◌||◌ (c.row_at-2.ensures t) (c.row_at-3.ensures t))
