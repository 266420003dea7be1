-- The states are those at which the variable has the value that it has at s.
use Prim.Native.Nat.{ℕ}
use native.Mathlib.Nat.{mod-lt}
use mathlib.Core.Bool.{Bool, true, false, ◌&&◌}
use mathlib.Core.Path.{◌≡◌}
use lib.Dec.{ltb}
use Rattle.states.proofs.Search.{and_left}
use Rattle.evaluation.specs.declared.Variable.{Variable}
use Rattle.evaluation.specs.Values.{is_small, agree_in}
use Rattle.evaluation.proofs.Laws.{SmallVariable, small}
use Rattle.evaluation.proofs.agreeing.Goals as goal

-- The test before the division, in the words of the definition.
asked : (x : Variable) (s : ℕ) (answer b : Bool) → answer ≡ is_small x → (answer && ltb s x.states) ≡ b → (is_small x && ltb s x.states) ≡ b
asked x s answer b is e = rw (← is) e

known : (x : Variable) (s : ℕ) (answer : Bool) → answer ≡ is_small x → (answer && ltb s x.states) ≡ true → SmallVariable x
known x s answer is e = small x (and_left _ _ (asked x s answer true is e))

pub nonzero_div-s : goal.nonzero_div-s
nonzero_div-s c = (known _ _ _ c.is_small.ensures c.if-is_small-s.true).weighs

pub nonzero_rem-s : goal.nonzero_rem-s
nonzero_rem-s c = (known _ _ _ c.is_small.ensures c.if-is_small-s.true).sized

pub states_with-requires : goal.states_with-requires
states_with-requires c =
    let k = known _ _ _ c.is_small.ensures c.if-is_small-s.true in
    (k.few, k.weighs, k.light, k.short, mod-lt _ k.sized)

pub returns-then-is_small-s : goal.returns-then-is_small-s
unfolding agree_in
returns-then-is_small-s c t = rw (asked _ _ _ true c.is_small.ensures c.if-is_small-s.true) (c.states_with.ensures t)

pub returns-else-is_small-s : goal.returns-else-is_small-s
unfolding agree_in
returns-else-is_small-s c t = rw (asked _ _ _ false c.is_small.ensures c.if-is_small-s.false) (c.empty.ensures t)
