-- The weight and the size of a variable are not 0 (`variable_small`); where the numbers make no head, both are 1.
use Rattle.std.proofs.Common.{◌≡◌, ℕ, ◌/◌, Bool, true, false, refl, ap, ◌∙◌}
use native.Mathlib.Nat.{mod-one}
use Rattle.handler.specs.declared.head.Head.{Head}
use Rattle.handler.specs.Header.{is_head}
use Rattle.evaluation.specs.Values.{variable_in, value_by}
use Rattle.evaluation.proofs.Laws.{SmallVariable, small, variable_small}
use Rattle.explain.specs.Naming.{value_at}
use Rattle.explain.proofs.naming.value_at.Goals.{After-variable_of-x}
use Rattle.explain.proofs.naming.value_at.Goals as goal

known : (c : After-variable_of-x) → SmallVariable c.variable_of-x.result
known c = rw c.variable_of-x.ensures (small _ (variable_small _ _))

value_by_lem : (head : Head) (s v : ℕ) → value_by (variable_in head v) s ≡ value_at head s v
unfolding variable_in value_at
value_by_lem head s v = by (is_head head) refl
  where
    by : (b : Bool) → is_head head ≡ b → value_by (variable_in head v) s ≡ value_at head s v
    by true h = rw h
    by false h = rw h (mod-one (s / 1))

pub returns : goal.returns
returns c =
    let a = c.args in
    ap (λ x. value_by x a.s) c.variable_of-x.ensures ∙ value_by_lem a.head a.s a.v

pub nonzero_div-result : goal.nonzero_div-result
nonzero_div-result c = (known (goal.at.nonzero_div-result c).After-variable_of-x).weighs

pub nonzero_rem-result : goal.nonzero_rem-result
nonzero_rem-result c = (known (goal.at.nonzero_rem-result c).After-variable_of-x).sized
