-- The two rows, met with the reach.
use mathlib.Core.Path.{◌∙◌, ap₂}
use mathlib.Core.Bool.{◌&&◌}
use Rattle.rules.proofs.Words.{reached_set}
use Rattle.rules.proofs.parallel.joint_ends_at.Goals as goal

pub returns : goal.returns
returns c low t =
    c.meet.ensures t
    ∙ ap₂ ◌&&◌ (c.meet-both.ensures t ∙ ap₂ ◌&&◌ (c.row_at.ensures t) (c.row_at-2.ensures t))
    (reached_set _ _ _ _ _ low c.single.ensures c.reach.ensures t)
