-- After a proof its counts are few; which words the definition has, the answer says.
use mathlib.Core.Path.{sym, ◌∙◌}
use native.Mathlib.Omega.{arith}
use Rattle.derivation.proofs.Files.{counted, stages, answered}
use Rattle.derivation.proofs.reading.load.Goals as goal

pub fill-requires : goal.fill-requires
fill-requires c =
    let file = answered _ _ (sym c.in-Ok.is ∙ c.read_proof.ensures) in
    omega (arith, counted _ _ _ (stages _ _ _ _ _ file.0 file.1).tables)
