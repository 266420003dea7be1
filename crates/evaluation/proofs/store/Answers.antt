-- The old value is subtracted before the new one, which is below the size, is added, so no number is larger than a state plus the
-- square of the capacity.
use Prim.Native.Nat.{ℕ, ◌*◌, ◌≤◌, ◌<◌}
use native.Mathlib.Nat.{mul-le-mul}
use native.Mathlib.Omega.{arith}
use mathlib.Core.Bool.{true}
use mathlib.Core.Path.{◌≡◌, ◌∙◌}
use lib.IntN.{ℤ, pos}
use mir.Syntax.{w64}
use mir.Val.{of_z, to_z}
use mir.Facts.{to_z-of_z}
use Rattle.states.specs.Sets.{capacity}
use Rattle.semantics.specs.States.{remainder}
use Rattle.semantics.proofs.Remainder.{remainder_below}
use Rattle.evaluation.specs.declared.Variable.{Variable}
use Rattle.evaluation.specs.Values.{value_by, is_small}
use Rattle.evaluation.proofs.Laws.{small}
use Rattle.evaluation.proofs.store.Goals.{Start}
use Rattle.evaluation.proofs.store.Goals as goal

-- What is added is small.
put : (x : Variable) → is_small x ≡ true → (n : ℕ) → n < x.size → n * x.weight ≤ capacity * capacity
put x h n low = mul-le-mul {n₂ = capacity} {m₂ = capacity} (omega (arith, small x h)) (small x h).light

-- The old value, as the code holds it.
held : (c : Start) → to_z w64 (of_z w64 c.args.value) ≡ pos (value_by c.args.x c.args.s)
held c = to_z-of_z c.ranges.value ∙ c.requires.2

added : (x : Variable) → is_small x ≡ true → (z : ℤ) (n : ℕ) → n ≡ remainder z x.size → n * x.weight ≤ capacity * capacity
added x h z n is = put x h n (rw is (remainder_below z x.size (small x h).sized))

pub wrapped-requires : goal.wrapped-requires
wrapped-requires c = let known = small c.args.x c.requires.0 in (known.sized, known.short)

pub overflow_mul-result-2 : goal.overflow_mul-result-2
overflow_mul-result-2 c = omega (arith, added _ c.requires.0 _ _ c.wrapped.ensures)

pub overflow_add-result : goal.overflow_add-result
overflow_add-result c = omega (arith, added _ c.requires.0 _ _ c.wrapped.ensures)

pub returns : goal.returns
returns c = rw (held (goal.at.returns c).Start, c.wrapped.ensures, to_z-of_z c.ranges.z)
