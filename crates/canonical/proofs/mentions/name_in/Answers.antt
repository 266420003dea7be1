use mathlib.Core.Path.{refl}
use Rattle.canonical.specs.Nodes.{name_in}
use Rattle.canonical.proofs.mentions.name_in.Goals as goal

pub returns : goal.returns
unfolding name_in
returns c = refl
