-- Masks of variables, where a store leads, and the states that agree in a variable.
use Rattle.std.specs.Prelude.{ℕ, ◌/◌, ◌%◌, ◌^◌, Bool, false, cond, ◌&&◌, leb, ltb, eqb, get_or}
use Rattle.std.proofs.Math.Option.{Option, none, some}
use Rattle.states.specs.Sets.{capacity}
use Rattle.semantics.specs.Language.{eq_z}
use Rattle.semantics.specs.States.{Machine, weight}
use Rattle.handler.specs.declared.head.Head.{Head}
use Rattle.handler.specs.Header.{is_head, sizes_in}
use Rattle.evaluation.specs.declared.Variable.{Variable}

-- Whether variable v is in a mask: whether bit v is 1.
abbrev pub in_mask : ℕ → ℕ → Bool
in_mask mask v = eqb (mask / 2 ^ v % 2) 1

-- Whether a store leads to t; where there is no integer to store, it leads nowhere.
abbrev pub leads_to : Option ℕ → ℕ → Bool
leads_to none t = false
leads_to (some s') t = eqb s' t

-- Whether s and t are states with the same value of variable v.
unfoldable pub agree : Machine → ℕ → ℕ → ℕ → Bool
agree m v s t = ltb s m.states && ltb t m.states && eq_z (m.get s v) (m.get t v)

-- A variable as it is encoded in a state's number; one that is not declared has a single value. Where the head is one that no file
-- has, there are no states.
unfoldable pub variable_in : Head → ℕ → Variable
variable_in head v =
    cond (is_head head) (record { states = head.states; weight = weight (sizes_in head) v; size = get_or (sizes_in head) v 1 })
    (record { states = 0; weight = 1; size = 1 })

-- The variable's value at a state.
abbrev pub value_by : Variable → ℕ → ℕ
value_by x s = s / x.weight % x.size

-- Whether there are no more states than a set can hold, and the weight and the size are not 0 and no larger, as for every head.
unfoldable pub is_small : Variable → Bool
is_small x = leb x.states capacity && ltb 0 x.weight && leb x.weight capacity && ltb 0 x.size && leb x.size capacity

-- Whether s and t are states with the same value of the variable; where its numbers are not small, no two states are.
unfoldable pub agree_in : Variable → ℕ → ℕ → Bool
agree_in x s t = is_small x && ltb s x.states && ltb t x.states && eqb (value_by x s) (value_by x t)
