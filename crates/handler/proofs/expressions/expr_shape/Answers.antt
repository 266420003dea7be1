-- The whole expression is read with 32 levels and no node before it.
use Prim.Native.Nat.{◌+◌}
use mathlib.Core.Path.{◌≡◌}
use native.Mathlib.Omega.{arith}
use Rattle.handler.specs.Expressions.{whole_expr}
use Rattle.handler.proofs.expressions.expr_shape.Goals as goal

pub returns-clause-value : goal.returns-clause-value
unfolding whole_expr
returns-clause-value c = c.expr_walk.ensures.value

pub returns-clause-terms_stored : goal.returns-clause-terms_stored
unfolding whole_expr
returns-clause-terms_stored c =
    let here : c.args.base + 0 ≡ c.args.base = omega arith in
    rw here at c.expr_walk.ensures.terms_stored
