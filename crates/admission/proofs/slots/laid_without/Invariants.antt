-- The slots up to slot i but those at the place are laid, and the tick is where they end.
use mathlib.Core.Path.{◌≡◌}
use lib.ListN.{take}
use Rattle.frame.specs.Slots.{total, without, laid_from, frame_of}
use Rattle.admission.proofs.slots.laid_without.Given as goal

abbrev pub invariant-loop-slot : goal.invariant-loop-slot
invariant-loop-slot l = record {
  laid : l.laid ≡ frame_of l.initial.laid.length (laid_from 0 (without l.place (take l.slot-index l.slots)));
  ends : l.tick ≡ total (without l.place (take l.slot-index l.slots));
}
