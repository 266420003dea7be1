-- docs/ADMISSION.md, "What is promised": what an admitted guest has of its slot, for the bytes of its two files.
use Rattle.std.specs.Prelude.{ℕ, ◌*◌, ◌≤◌, Bool, true, List, ◌≡◌}
use Rattle.std.proofs.Math.Option.{some}
use Rattle.semantics.specs.States.{machine_of}
use Rattle.semantics.specs.Steps.{Config, at}
use Rattle.semantics.specs.Runs.{Event, run, rely_kept, steps_made}
use Rattle.semantics.specs.Promise.{Promise}
use Rattle.pair.specs.Reading.{Pair, pair, read_pair}
use Rattle.pair.specs.Modes.{rows, root_spec}
use Rattle.frame.specs.declared.Slot.{Slot}
use Rattle.frame.specs.declared.Frame.{Frame}
use Rattle.frame.specs.Slots.{last_slot}

-- A slot serves a guest: both files are read, the handler keeps its promise with a step number that fills the slot, and in no run from the
-- root's P in which others keep the root's R does it take more steps than the slot has ticks for.
pub record Served (hb pb : List ℕ) (ticks : ℕ) (slot : Slot) : Type 0 where
  pub held : Pair
  pub read : read_pair hb pb ≡ pair held
  pub steps : ℕ
  pub filled : slot.length ≡ steps * ticks
  pub promise : Promise (machine_of held.sizes) held.statement (root_spec pb rows held) steps
  pub in_time : (events : List Event) (start : ℕ) (now : Config)
      → (root_spec pb rows held).P start ≡ true → run (machine_of held.sizes) events (at held.statement start) ≡ some now
      → rely_kept (machine_of held.sizes) (root_spec pb rows held).R events (at held.statement start) ≡ true
      → steps_made events * ticks ≤ slot.length

-- What is promised of an admission: if it was done, the last slot of the record after it serves the guest.
pub record ServedIf (done : Bool) (hb pb : List ℕ) (ticks : ℕ) (f : Frame) : Type 0 where
  pub served : done ≡ true → Served hb pb ticks (last_slot f)
