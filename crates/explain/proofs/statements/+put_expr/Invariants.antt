-- The measure is the number of levels.
use Rattle.explain.proofs.statements.+put_expr.Given as goal

abbrev pub decreases-put_expr : goal.decreases-put_expr
decreases-put_expr l = l.levels
