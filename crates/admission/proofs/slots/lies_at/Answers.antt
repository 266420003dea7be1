-- The length is compared with what is left of the frame.
use mathlib.Core.Bool.{◌&&◌}
use mathlib.Core.Path.{ap}
use borrow.Author.Rules.{rules}
use lib.Dec.{ltb, eqb}
use Rattle.frame.specs.Slots.{places}
use Rattle.admission.proofs.Looking.{room_left}
use Rattle.admission.proofs.slots.lies_at.Goals as goal

pub returns : goal.returns
returns c =
    let a = c.args in
    ap (λ b. eqb a.slot.first a.tick && b && ltb a.slot.place places) (room_left a.tick a.slot.length a.length (search rules))
