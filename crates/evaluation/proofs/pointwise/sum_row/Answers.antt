-- The cells below s hold the sums or the differences there, whose magnitudes are at most the sum of the operands' plus 1.
use Prim.Native.Nat.{ℕ, ◌+◌, ◌≤◌}
use native.Mathlib.Omega.{arith}
use mathlib.Core.Option.{none, some}
use mathlib.Core.Path.{◌≡◌, ap₂, ◌∙◌}
use borrow.Author.Rules.{rules}
use lib.IntN.{ℤ, pos}
use lib.ListN.{get_or}
use lib.Signed.{mag}
use mir.Syntax.{w64}
use mir.Val.{SFits}
use mir.Facts.{to_z-of_z}
use Rattle.semantics.specs.Language.{int, of_integers}
use Rattle.states.proofs.Cells.{cells_none, cells_more}
use Rattle.evaluation.proofs.pointwise.sum_row.Invariants.{Sum}
use Rattle.evaluation.proofs.pointwise.sum_row.Goals as goal

-- x, y and z are a, b and r as the code holds them.
carried : (o : ℕ) (a b r x y z : ℤ) → x ≡ a → y ≡ b → z ≡ r → (some (int r) ≡ get_or (of_integers x y) o none) × (mag r ≤ mag x + mag y + 1)
    → (some (int z) ≡ get_or (of_integers a b) o none) × (mag z ≤ mag a + mag b + 1)
carried o a b r x y z p q e h = rw e (h.0 ∙ ap₂ (λ i j. get_or (of_integers i j) o none) p q, rw (p, q) at h.1)

pub loop-s-init : goal.loop-s-init
loop-s-init c = cells_none (pos 0) _

pub loop-s-preserved : goal.loop-s-preserved
loop-s-preserved c =
    let left = get_or c.args.left.now c.loop-s.s (pos 0) in
    let right = get_or c.args.right.now c.loop-s.s (pos 0) in
    let a : SFits w64 left = search rules in
    let b : SFits w64 right = search rules in
    let r : SFits w64 c.sum.result = search rules in
    cells_more (pos 0) (Sum c.args.o c.args.left.now c.args.right.now) _ _ _ (omega arith)
    (carried c.args.o left right c.sum.result _ _ _ (to_z-of_z a) (to_z-of_z b) (to_z-of_z r) (c.sum.ensures.exact, c.sum.ensures.bounded))
    c.loop-s.invariant
