-- There is nothing before them.
use mathlib.Core.List.{[]}
use mathlib.Core.Path.{refl}
use native.Mathlib.Omega.{arith}
use Rattle.derivation.specs.Tables.{tabulate}
use Rattle.composition.specs.Refinement.{relations_held}
use Rattle.composition.proofs.numbering.mention_root.Goals as goal

pub returns : goal.returns
unfolding relations_held tabulate
returns c = c.mention_three.ensures [] (λ l. refl, λ l. absurd (omega arith))
