-- docs/FORMAT.md, "Variables and states": a state's number, which counts variable 0 as most significant, and the value of an
-- expression at a state.
use Rattle.std.specs.Prelude.{ℕ, suc, ◌+◌, ◌-◌, ◌*◌, ◌/◌, ◌%◌, Bool, true, false, cond, List, [], ◌∷◌, get_or, drop, ℤ, pos, negsuc}
use Rattle.std.proofs.Math.Option.{Option, none, some}
use Rattle.semantics.specs.Language.{Val, int, truth, Expr, lit, var, op, apply}

-- N, the number of states for variables of these sizes.
abbrev pub product : List ℕ → ℕ
product [] = 1
product (size ∷ sizes) = size * product sizes

-- How much a state's number grows when the value of variable v grows by 1: with sizes 2 and 3, values 1 and 2 are state 1 × 3 + 2.
abbrev pub weight : List ℕ → ℕ → ℕ
weight sizes v = product (drop (suc v) sizes)

abbrev pub value_of : List ℕ → ℕ → ℕ → ℕ
value_of sizes s v = s / weight sizes v % get_or sizes v 1

-- The remainder of an integer by a size, from 0 to size − 1: by 3, that of 3 is 0 and that of −1 is 2.
abbrev pub remainder : ℤ → ℕ → ℕ
remainder (pos n) size = n % size
remainder (negsuc n) size = size - 1 - n % size

-- The state after storing an integer in variable v, which then holds the remainder by its size: the registers wrap.
abbrev pub stored : List ℕ → ℕ → ℕ → ℤ → ℕ
stored sizes s v z = s - value_of sizes s v * weight sizes v + remainder z (get_or sizes v 1) * weight sizes v

-- The variables as steps see them: N, a variable's present value, and a store.
pub record Machine : Type 0 where
  pub states : ℕ
  pub get : ℕ → ℕ → ℤ
  pub store : ℕ → ℕ → ℤ → ℕ

abbrev pub machine_of : List ℕ → Machine
machine_of sizes = record { states = product sizes; get = λ s v. pos (value_of sizes s v); store = stored sizes }

abbrev pub both : (Val → Val → Option Val) → Option Val → Option Val → Option Val
both f none b = none
both f (some a) none = none
both f (some a) (some b) = f a b

module _ (m : Machine) where
  -- The value of an expression at a state; both operands are needed, with no short cut.
  abbrev pub value : Expr → ℕ → Option Val
  value (lit v) s = some v
  value (var v) s = some (int (m.get s v))
  value (op o l r) s = both (apply o) (value l s) (value r s)

abbrev pub is_truth : Bool → Option Val → Bool
is_truth b none = false
is_truth b (some (int z)) = false
is_truth true (some (truth c)) = c
is_truth false (some (truth c)) = cond c false true

-- The state after a store of an expression's value; none if there is no value or it is no integer.
abbrev pub store_of : Machine → ℕ → ℕ → Option Val → Option ℕ
store_of m s v none = none
store_of m s v (some (int z)) = some (m.store s v z)
store_of m s v (some (truth b)) = none
