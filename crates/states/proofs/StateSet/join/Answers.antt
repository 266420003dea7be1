-- The bitwise or has the members of either.
use mathlib.Core.Path.{refl}
use mathlib.Core.Bool.{◌||◌}
use lib.Bits.{bit_or}
use Rattle.states.specs.Sets.{has}
use Rattle.states.proofs.Bits.{or_bits}
use Rattle.states.proofs.Words.{mem_word}
use Rattle.states.proofs.StateSet.join.Goals as goal

pub returns : goal.returns
unfolding has
returns c = mem_word bit_or ◌||◌ or_bits refl _ _
