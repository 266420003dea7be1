-- Each call has a level fewer.
use Rattle.evaluation.proofs.+occurrences_walk.Given as goal

abbrev pub decreases-occurrences_walk : goal.decreases-occurrences_walk
decreases-occurrences_walk l = l.levels
