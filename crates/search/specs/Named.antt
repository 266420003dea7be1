-- The states that a refusal names: those that the search for a breach finds, as a value of `Named`.
use Rattle.std.specs.Prelude.{ℕ, List, [], ◌∷◌}
use Rattle.std.proofs.Math.Option.{none, some}
use Rattle.states.specs.Search.{Search}
use Rattle.search.specs.declared.Named.{Named}
use Rattle.search.specs.declared.Named.TheVariants.{Nothing, One, Two, Three}

-- The states of a breach; there are none if the condition holds.
unfoldable pub states_found : Search → List ℕ
states_found none = []
states_found (some states) = states

-- Which states each case of `Named` names, in order.
unfoldable pub listed : Named → List ℕ
listed Nothing = []
listed (One s) = s ∷ []
listed (Two s t) = s ∷ t ∷ []
listed (Three s t u) = s ∷ t ∷ u ∷ []

-- The case that names the states of a list. No condition names more than three; of a longer list it would be the first three.
unfoldable pub naming : List ℕ → Named
naming [] = Nothing
naming (s ∷ []) = One s
naming (s ∷ t ∷ []) = Two s t
naming (s ∷ t ∷ u ∷ rest) = Three s t u
