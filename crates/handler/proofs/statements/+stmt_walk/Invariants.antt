-- One level fewer at each call.
use Rattle.handler.proofs.statements.+stmt_walk.Given as goal

abbrev pub decreases-stmt_walk : goal.decreases-stmt_walk
decreases-stmt_walk l = l.levels
