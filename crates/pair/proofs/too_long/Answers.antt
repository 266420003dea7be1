-- The code tests what the definition says.
use mathlib.Core.Path.{refl}
use Rattle.pair.specs.Limits.{too_long}
use Rattle.pair.proofs.too_long.Goals as goal

pub returns : goal.returns
unfolding too_long
returns c = refl
