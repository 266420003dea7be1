-- The bitwise and has the members of both.
use mathlib.Core.Path.{refl}
use mathlib.Core.Bool.{◌&&◌}
use lib.Bits.{bit_and}
use Rattle.states.specs.Sets.{has}
use Rattle.states.proofs.Bits.{and_bits}
use Rattle.states.proofs.Words.{mem_word}
use Rattle.states.proofs.StateSet.meet.Goals as goal

pub returns : goal.returns
unfolding has
returns c = mem_word bit_and ◌&&◌ and_bits refl _ _
