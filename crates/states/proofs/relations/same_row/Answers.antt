-- Comparing the two rows over all states is the same as over n states.
use mathlib.Core.Path.{◌∙◌, refl, ap₂}
use mathlib.Core.Bool.{beq}
use Rattle.states.specs.Sets.{capacity}
use Rattle.states.proofs.Search.{all_cong}
use Rattle.states.proofs.Rows.{row_all}
use Rattle.states.proofs.relations.same_row.Goals as goal

pub returns : goal.returns
returns c = c.same.ensures ∙ all_cong capacity _ _ (λ t l. ap₂ beq (c.row.ensures t) (c.row-2.ensures t))
    ∙ row_all beq refl _ _ _ _
