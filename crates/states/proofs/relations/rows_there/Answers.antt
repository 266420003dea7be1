use native.Mathlib.Omega.{arith}
use Rattle.states.proofs.relations.rows_there.Goals as goal

pub returns : goal.returns
returns c =
    let held = c.rows_held.ensures in
    (omega (arith, held.0, held.2), omega arith, λ s l m k. omega (arith, held.1 s l m))
