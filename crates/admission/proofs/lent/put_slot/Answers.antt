-- The three stores are the definition's, and the numbers keep their length.
use Prim.Native.Nat.{suc, ◌+◌, ◌*◌}
use mathlib.Core.Path.{◌≡◌}
use native.Mathlib.Numerals.{add-one}
use native.Mathlib.Omega.{arith}
use Rattle.frame.specs.Lent.{slot_numbers}
use Rattle.admission.proofs.lent.put_slot.Goals as goal

pub returns : goal.returns
unfolding slot_numbers
returns c =
    let at = 2 + 3 * c.args.i in
    let two : at + 2 ≡ suc (suc at) = omega arith in
    rw (add-one, two)
