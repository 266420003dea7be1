-- The slots up to slot i lie end to end, and the tick is where they end.
use Prim.Native.Nat.{◌+◌, ◌≤◌}
use mathlib.Core.Path.{◌≡◌}
use lib.ListN.{drop}
use Rattle.frame.specs.Slots.{total, laid_within}
use Rattle.admission.proofs.slots.laid_slots.Given as goal

abbrev pub invariant-loop-i : goal.invariant-loop-i
invariant-loop-i l = record {
  inside : l.tick ≤ l.length;
  ticks : l.tick + total (drop l.i l.slots) ≡ total l.slots;
  decide : laid_within l.length l.tick (drop l.i l.slots) ≡ laid_within l.length 0 l.slots;
}
