-- Each way out is one case of the name at the bit.
use mathlib.Core.Path.{sym, ◌∙◌}
use Rattle.derivation.proofs.Heads.{passed_on, named_missing, named_over, named_next}
use Rattle.derivation.proofs.nodes.name_at.Goals as goal

pub returns-in_err-i : goal.returns-in_err-i
returns-in_err-i c f =
    rw (passed_on _ _ c.from_residual.ensures.1) (named_missing _ _ _ f _ (sym c.read_or.ensures ∙ c.in_err-i.was))

pub returns-then-i-limit : goal.returns-then-i-limit
returns-then-i-limit c f = named_over _ _ _ f _ _ (sym c.read_or.ensures ∙ c.in_ok-i.was) c.if-i-limit.true

pub returns : goal.returns
returns c f = named_next _ _ _ f _ _ (sym c.read_or.ensures ∙ c.in_ok-i.was) c.if-i-limit.false
