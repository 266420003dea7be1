-- A node's conditions, checked in their order: the first that failed is kept.
use Rattle.std.specs.Prelude.{ℕ, Bool, cond, List, [], ◌∷◌, Result, Ok, Err, eqb}
use Rattle.std.proofs.Math.Option.{Option, none, some}
use Rattle.states.specs.Search.{Search, given, holds}
use Rattle.semantics.specs.Checking.{Condition, Breach}
use Rattle.rules.specs.declared.Broken.{Broken}
use Rattle.search.specs.Named.{naming}

-- One more condition, by its number and whether it holds.
unfoldable pub asked : Result Unit ℕ → ℕ → Bool → Result Unit ℕ
asked (Ok tt) k held = cond held (Ok tt) (Err k)
asked (Err first) k held = Err first

-- The conditions of a list, one after the other.
abbrev pub asked_all : Result Unit ℕ → List Condition → Result Unit ℕ
asked_all found [] = found
asked_all found (c ∷ cs) = asked_all (asked found c.number (holds c.breach)) cs

-- The number of the first condition that failed, if one did.
abbrev pub verdict_of : Option Breach → Result Unit ℕ
verdict_of none = Ok tt
verdict_of (some b) = Err b.number

abbrev pub or_states : Search → List ℕ → List ℕ
or_states none rest = rest
or_states (some found) rest = found

-- The states that the first broken condition with this number names; none if no such condition is broken.
unfoldable pub states_for : ℕ → List Condition → List ℕ
states_for k [] = []
states_for k (c ∷ rest) = or_states (given (eqb k c.number) c.breach) (states_for k rest)

-- The first condition that failed, as the code gives it to the loop over the nodes.
abbrev pub fault_of : Option Breach → Result Unit Broken
fault_of none = Ok tt
fault_of (some b) = Err (record { number = b.number; states = naming b.states })
