-- docs/FAULTS.md: of each number that a check gives, where its place is and how many states it names.
use Rattle.std.specs.Prelude.{ℕ, List, [], ◌∷◌, get_or}
use Rattle.semantics.specs.declared.Where.{Where}
use Rattle.semantics.specs.declared.Where.TheVariants.{Nowhere, HandlerBit, ProofBit, Node}

pub record Fact : Type 0 where
  pub place : Where
  pub states : ℕ

abbrev fact : Where → ℕ → Fact
fact place states = record { place = place; states = states }

-- A number that has no place in the files: 1, 2, or one that no check gives.
abbrev pub no_place : Fact
no_place = fact Nowhere 0

abbrev pub in_handler : Fact
in_handler = fact HandlerBit 0

abbrev pub in_proof : Fact
in_proof = fact ProofBit 0

-- A condition that names so many states, and 80.
abbrev node : ℕ → Fact
node states = fact Node states

-- Number 0 first, ten to a line.
abbrev pub facts : List Fact
facts =
    no_place ∷ no_place ∷ no_place ∷ no_place ∷ no_place ∷ no_place ∷ no_place ∷ no_place ∷ no_place ∷ no_place
    ∷ in_handler ∷ in_handler ∷ in_handler ∷ in_handler ∷ in_handler ∷ in_handler ∷ in_handler ∷ in_handler ∷ in_handler ∷ no_place
    ∷ in_proof ∷ in_proof ∷ in_proof ∷ in_proof ∷ in_proof ∷ in_proof ∷ no_place ∷ no_place ∷ no_place ∷ no_place
    ∷ node 0 ∷ node 2 ∷ node 3 ∷ node 3 ∷ node 0 ∷ node 1 ∷ node 0 ∷ node 0 ∷ node 0 ∷ no_place
    ∷ no_place ∷ node 0 ∷ node 2 ∷ node 2 ∷ no_place ∷ node 0 ∷ node 1 ∷ no_place ∷ no_place ∷ no_place
    ∷ node 0 ∷ node 1 ∷ node 1 ∷ node 2 ∷ node 2 ∷ node 2 ∷ node 2 ∷ node 3 ∷ no_place ∷ no_place
    ∷ node 2 ∷ node 3 ∷ no_place ∷ no_place ∷ no_place ∷ node 0 ∷ node 2 ∷ no_place ∷ no_place ∷ no_place
    ∷ node 0 ∷ node 0 ∷ node 0 ∷ node 0 ∷ no_place ∷ no_place ∷ no_place ∷ no_place ∷ no_place ∷ no_place
    ∷ node 0 ∷ []

-- Where the place of a number is, and how many states it names.
abbrev pub place_of : ℕ → Where
place_of k = (get_or facts k no_place).place

abbrev pub states_named : ℕ → ℕ
states_named k = (get_or facts k no_place).states
