use mathlib.Core.Path.{refl}
use Rattle.frame.specs.Slots.{frame_of}
use Rattle.admission.proofs.slots.no_slots.Goals as goal

pub returns : goal.returns
unfolding frame_of
returns c = refl
