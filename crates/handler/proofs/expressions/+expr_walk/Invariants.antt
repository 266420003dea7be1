-- One level fewer at each call.
use Rattle.handler.proofs.expressions.+expr_walk.Given as goal

abbrev pub decreases-expr_walk : goal.decreases-expr_walk
decreases-expr_walk l = l.levels
