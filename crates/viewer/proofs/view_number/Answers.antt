-- The index is within its file (`inside_by_kind`), and a slice has fewer than 2 ^ 63 bytes.
use Prim.Native.Nat.{◌^◌}
use native.Mathlib.Omega.{arith}
use mathlib.Core.Path.{◌∙◌, ap}
use Rattle.viewer.specs.View.{location_number, view_of}
use Rattle.viewer.proofs.Viewing.{inside_by_kind, index_below}
use Rattle.viewer.proofs.view_number.Goals as goal

pub number_of-requires : goal.number_of-requires
number_of-requires c =
    let a = c.args in
    let good = c.well_formed in
    index_below a.handler.now a.proof.now (2 ^ 63) (omega (arith, good.0)) (omega (arith, good.1.0)) c.locate_kind.result
    (rw c.locate_kind.ensures (inside_by_kind a.handler.now a.proof.now a.number a.kind a.place))

pub returns : goal.returns
unfolding view_of
returns c = c.number_of.ensures ∙ ap location_number c.locate_kind.ensures
