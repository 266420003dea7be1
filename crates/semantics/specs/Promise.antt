-- docs/RULES.md, "What acceptance promises": what an accepted derivation promises of its handler, in one claim over every list of
-- events, the empty list included.
use Rattle.std.specs.Prelude.{ℕ, ◌≤◌, ◌≡◌, true, false, ◌||◌, List}
use Rattle.std.proofs.Math.Option.{some}
use Rattle.semantics.specs.Language.{Stmt}
use Rattle.semantics.specs.States.{Machine}
use Rattle.semantics.specs.Steps.{Config, at, turns, is_nil}
use Rattle.semantics.specs.Runs.{Event, still, is_open, open_steps, run, rely_kept, guarantee_kept, steps_made}
use Rattle.semantics.specs.Derivations.{Spec}

-- What holds after a list of events that led from a start to the remaining handler and present state `now`.
pub record Outcome (m : Machine) (S : Stmt) (spec : Spec) (bound : ℕ) (events : List Event) (start : ℕ) (now : Config) : Type 0 where
  -- each handler step that changed the state kept the guarantee
  pub guarantee : guarantee_kept m spec.G events (at S start) ≡ true
  -- no part of the handler stands still
  pub moving : still (turns m now.rest now.state) ≡ false
  -- unless the handler is at its end, a step is open
  pub open_step : (is_nil now.rest || is_open (open_steps m now)) ≡ true
  -- it has made no more steps than the stated number
  pub few : steps_made events ≤ bound
  -- at its end, start and present states satisfy the postcondition
  pub post : is_nil now.rest ≡ true → spec.Q start now.state ≡ true

-- For every list of events from the statement and any start in the precondition, if every change by others keeps the rely.
pub record Promise (m : Machine) (S : Stmt) (spec : Spec) (bound : ℕ) : Type 0 where
  pub kept : (events : List Event) (start : ℕ) (now : Config)
      → spec.P start ≡ true → run m events (at S start) ≡ some now → rely_kept m spec.R events (at S start) ≡ true
      → Outcome m S spec bound events start now
