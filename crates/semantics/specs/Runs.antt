-- docs/RULES.md, "Runs": a run is a list of events from the whole statement and a start state.
use Rattle.std.specs.Prelude.{ℕ, suc, Bool, true, false, cond, ◌&&◌, ◌||◌, List, [], ◌∷◌, ltb, eqb}
use Rattle.std.proofs.Math.Option.{Option, none, some}
use Rattle.std.proofs.Math.ListN.{get_elem?}
use Rattle.semantics.specs.States.{Machine}
use Rattle.semantics.specs.Steps.{Config, at, turns}

-- A handler event is any one step open at that moment, by its place among the open ones; a change by others puts any state
-- in place of the present one.
pub data Event : Type 0 where
  own : ℕ → Event
  other : ℕ → Event

-- The open steps of a list of turns: those that do not stand still.
abbrev pub opens : List (Option Config) → List Config
opens [] = []
opens (none ∷ rest) = opens rest
opens (some c ∷ rest) = c ∷ opens rest

-- Whether some part that has its turn stands still.
abbrev pub still : List (Option Config) → Bool
still [] = false
still (none ∷ rest) = true
still (some c ∷ rest) = still rest

abbrev pub is_open : List Config → Bool
is_open [] = false
is_open (c ∷ rest) = true

abbrev pub on_step : {A : Type 0} → Option Config → A → (Config → A) → A
on_step none a f = a
on_step (some c) a f = f c

-- The steps made are as many as the handler events of the list.
abbrev pub steps_made : List Event → ℕ
steps_made [] = 0
steps_made (own k ∷ events) = suc (steps_made events)
steps_made (other t ∷ events) = steps_made events

module _ (m : Machine) where
  abbrev pub open_steps : Config → List Config
  open_steps c = opens (turns m c.rest c.state)

  -- Each event acts on the remaining handler and state that the last one left. There is no run with a handler event that is not an open
  -- step, nor with a change to a number that is no state.
  abbrev pub run : List Event → Config → Option Config
  run [] c = some c
  run (own k ∷ events) c = on_step (get_elem? (open_steps c) k) none (run events)
  run (other t ∷ events) c = cond (ltb t m.states) (run events (at c.rest t)) none

  -- Whether every change by others keeps a relation.
  abbrev pub rely_kept : (ℕ → ℕ → Bool) → List Event → Config → Bool
  rely_kept R [] c = true
  rely_kept R (own k ∷ events) c = on_step (get_elem? (open_steps c) k) true (rely_kept R events)
  rely_kept R (other t ∷ events) c = R c.state t && rely_kept R events (at c.rest t)

  -- Whether every handler step that changed the state keeps a relation.
  abbrev pub guarantee_kept : (ℕ → ℕ → Bool) → List Event → Config → Bool
  guarantee_kept G [] c = true
  guarantee_kept G (own k ∷ events) c =
      on_step (get_elem? (open_steps c) k) true (λ d. (eqb d.state c.state || G c.state d.state) && guarantee_kept G events d)
  guarantee_kept G (other t ∷ events) c = guarantee_kept G events (at c.rest t)
