-- The head says which node it is, and that its numbers fit.
use Prim.Native.Nat.{◌<◌}
use mathlib.Core.Path.{◌≡◌, ap, ◌∙◌}
use native.Mathlib.Omega.{arith}
use lib.Signed.{mag}
use mir.Syntax.{w64}
use mir.Val.{of_z, to_z}
use mir.Facts.{to_z-of_z}
use Rattle.handler.specs.Terms.{bits16}
use Rattle.handler.proofs.TermTable.{bits_small}
use Rattle.handler.proofs.expressions.leaf_term.Goals.{In-Integer}
use Rattle.handler.proofs.expressions.leaf_term.Goals as goal

small : (c : In-Integer) → mag c.in-Integer.z < 32768
small c = rw c.in-Integer.is at c.requires

-- The integer as the code holds it.
kept : (c : In-Integer) → to_z w64 (of_z w64 c.in-Integer.z) ≡ c.in-Integer.z
kept c = to_z-of_z {w = w64} {z = c.in-Integer.z} (record { sfits = omega (arith, small c) })

pub returns-in-Integer : goal.returns-in-Integer
returns-in-Integer c =
    let here = (goal.at.returns-in-Integer c).In-Integer in
    let is : c.bits_of.result ≡ bits16 c.in-Integer.z = c.bits_of.ensures ∙ ap bits16 (kept here) in
    (rw (c.in-Integer.is, is), record { tag = omega arith; value = rw is (bits_small _ (small here)); right = omega arith })
