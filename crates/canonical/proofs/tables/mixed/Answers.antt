-- The shifts are the definition's product and quotient.
use mathlib.Core.Path.{refl}
use Rattle.canonical.specs.Refinement.{mix_with}
use Rattle.canonical.proofs.tables.mixed.Goals as goal

pub returns : goal.returns
unfolding mix_with
returns c = refl
