-- The rows below s are stored.
use mathlib.Core.Path.{◌≡◌}
use native.Mathlib.Omega.{arith}
use Rattle.composition.proofs.Stored.{rows_start, rows_next, relation_stored}
use Rattle.composition.proofs.pool.store_relation.Goals as goal

pub loop-s-init : goal.loop-s-init
loop-s-init c = (omega arith, rows_start _ _ _)

pub loop-s-preserved : goal.loop-s-preserved
loop-s-preserved c =
    let so = c.loop-s.invariant.1 in
    (omega arith, rw c.put_entry.ensures (rows_next _ _ _ _ _ _ (omega (arith, so.long)) c.row.ensures so))

pub returns : goal.returns
returns c =
    let all : c.loop-s.s ≡ c.args.n = omega arith in
    relation_stored _ c.requires.0 _ _ _ _ (rw all at c.loop-s.invariant.1)
