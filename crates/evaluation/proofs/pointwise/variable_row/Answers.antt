-- The cells below s hold the variable's values there; `place` and `value` are those of s.
use Prim.Native.Nat.{◌+◌, ◌/◌, ◌%◌}
use native.Mathlib.Nat.{mod-le, mod-add-mod, div-le_self, zero-mod, zero-div}
use native.Mathlib.Omega.{arith}
use mathlib.Core.Bool.{cond}
use mathlib.Core.Path.{sym, ap, ap₂, ◌∙◌}
use lib.Dec.{eqb}
use lib.IntN.{pos}
use mir.Syntax.{w64}
use mir.Val.{SFits}
use mir.Facts.{to_z-of_z}
use Rattle.states.proofs.Cells.{cells_none, cells_more}
use Rattle.evaluation.proofs.Runs.{value_on}
use Rattle.evaluation.proofs.pointwise.variable_row.Invariants.{Value}
use Rattle.evaluation.proofs.pointwise.variable_row.Goals.{In-loop-s}
use Rattle.evaluation.proofs.pointwise.variable_row.Goals as goal

-- The value at a state is at most the state's number.
value_fits : (c : In-loop-s) → SFits w64 (pos c.loop-s.value)
value_fits c =
    let a = c.args in
    let s = c.loop-s.s in
    record { sfits = omega (arith, mod-le (s / a.weight) a.size, div-le_self s a.weight) }

pub loop-s-init : goal.loop-s-init
loop-s-init c = (sym (zero-mod _), rw (zero-div c.args.weight) (sym (zero-mod _)), cells_none (pos 0) _)

pub loop-s-preserved : goal.loop-s-preserved
loop-s-preserved c =
    let a = c.args in
    let now = c.loop-s.invariant in
    let place = c.next_below-place.ensures ∙ ap (λ p. (p + 1) % a.weight) now.0 ∙ mod-add-mod c.loop-s.s a.weight 1 in (
      place,
      c.next_value-value.ensures ∙ ap₂ (λ p v. cond (eqb p 0) ((v + 1) % a.size) v) place now.1
          ∙ value_on c.loop-s.s a.weight a.size c.requires.1,
      cells_more (pos 0) (Value a.weight a.size) _ _ _ (omega arith) (to_z-of_z (value_fits (goal.at.loop-s-preserved c).In-loop-s) ∙ ap pos now.1)
          now.2,
    )

pub returns : goal.returns
returns c s l = c.loop-s.invariant.2.hold s (omega arith)
