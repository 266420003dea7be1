-- What the private functions ensure. No public contract uses this.
use Rattle.std.specs.Prelude.{ℕ, ◌+◌, Bool, cond, set, Option, Some, None}
use Rattle.frame.specs.declared.Slot.{Slot}
use Rattle.frame.specs.declared.Frame.{Frame}

abbrev pub laid_found : Bool → ℕ → Option ℕ
laid_found well end = cond well (Some end) None

-- A slot stored after those that are held.
abbrev pub added_to : Frame → Slot → Frame
added_to f s = record { length = f.length; count = f.count + 1; slots = set f.slots f.count s }
