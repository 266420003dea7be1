-- The pairs of the rows that start in P are in Q.
use mathlib.Core.Path.{◌∙◌}
use Rattle.rules.specs.Words.{word_relation}
use Rattle.rules.proofs.Rows.{pairs_within}
use Rattle.rules.proofs.assignment.store_in_post.Goals as goal

pub returns : goal.returns
unfolding word_relation
returns c = simp (c.set_at.ensures, c.rows_of.ensures) at c.included_from.ensures
    ∙ pairs_within _ _ _ _
