-- Each call has a level fewer.
use Rattle.evaluation.proofs.+values_walk.Given as goal

abbrev pub decreases-values_walk : goal.decreases-values_walk
decreases-values_walk l = l.levels
