-- `find` gives the first set that is the same.
use mathlib.Core.Path.{◌∙◌}
use Rattle.std.proofs.Common.{rules}
use Rattle.composition.specs.Refinement.{sets_held}
use Rattle.composition.proofs.Mentioning.{place_found}
use Rattle.composition.proofs.pool.place_of_set.Goals as goal

pub returns : goal.returns
unfolding sets_held
returns c = c.unwrap_or.ensures ∙ place_found _ _ _ _ _ c.find.ensures.ran (λ i b q k. search rules)
