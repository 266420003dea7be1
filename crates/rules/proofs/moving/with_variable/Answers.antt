-- The mask joined with the bit of the variable.
use Prim.Native.Nat.{ℕ, ◌*◌, ◌%◌, ◌^◌, ◌<◌}
use native.Mathlib.Nat.{one-mul}
use native.Mathlib.Omega.{arith}
use mathlib.Core.Path.{◌≡◌, ◌∙◌, sym, ap}
use mathlib.Core.Bool.{◌&&◌, ◌||◌, or-false}
use lib.Dec.{eqb}
use lib.Pow.{shl_exact}
use Rattle.states.proofs.Bits.{or_bits, bit_power}
use Rattle.evaluation.specs.Values.{in_mask}
use Rattle.rules.proofs.moving.with_variable.Goals as goal

shifted : (v : ℕ) → v < 32 → 1 * 2 ^ v % 2 ^ 32 ≡ 2 ^ v
shifted v h = shl_exact 1 v 32 (omega arith) (omega arith) ∙ one-mul (2 ^ v)

pub returns-then-one : goal.returns-then-one
returns-then-one c u = let a = c.args in
    or_bits a.mask _ u
    ∙ ap (λ b. in_mask a.mask u || b)
    (ap (λ x. in_mask x u) (shifted a.v c.requires) ∙ bit_power a.v u ∙ sym (ap (λ b. b && eqb a.v u) c.if-one.true))

pub returns-else-one : goal.returns-else-one
returns-else-one c u = rw c.if-one.false (sym (or-false _))
