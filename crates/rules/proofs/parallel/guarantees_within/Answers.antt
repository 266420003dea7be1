-- Both inclusions hold.
use mathlib.Core.Path.{◌∙◌, sym, ap₂}
use mathlib.Core.Bool.{◌&&◌}
use Rattle.states.proofs.Search.{holds_must}
use Rattle.semantics.specs.Conditions.{c65}
use Rattle.rules.proofs.parallel.guarantees_within.Goals as goal

pub returns : goal.returns
unfolding c65
returns c = ap₂ ◌&&◌ c.lies_in.ensures c.lies_in-2.ensures ∙ sym (holds_must _)
