-- After i turns the numbers up to slot i are the record's; `numbers_next` adds the three of slot i.
use Prim.Native.Nat.{◌+◌, ◌*◌}
use mathlib.Core.List.{◌∷◌}
use mathlib.Core.Path.{◌≡◌}
use lib.ListN.{length, take}
use Rattle.frame.specs.Lent.{slot_numbers}
use Rattle.admission.proofs.lent.put_frame.Given as goal

abbrev pub invariant-loop-i : goal.invariant-loop-i
invariant-loop-i l = record {
  long : length l.numbers ≡ 50;
  written : take (2 + 3 * l.i) l.numbers ≡ l.frame.length ∷ l.frame.count ∷ slot_numbers (take l.i l.frame.slots);
}
