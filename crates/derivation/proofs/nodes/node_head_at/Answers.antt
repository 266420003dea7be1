-- A rule has 3 bits.
use mathlib.Core.Path.{sym, ◌∙◌}
use native.Mathlib.Omega.{arith}
use Rattle.derivation.proofs.Heads.{there_or}
use Rattle.derivation.proofs.nodes.node_head_at.Goals as goal

pub overflow_cast-rule : goal.overflow_cast-rule
overflow_cast-rule c = omega (arith, there_or _ _ _ _ _ _ (sym c.read_or.ensures ∙ c.in_ok-rule.was))
