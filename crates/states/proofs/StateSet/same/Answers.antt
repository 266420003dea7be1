-- Two words are equal iff their members are.
use mathlib.Core.Bool.{beq}
use lib.Dec.{eqb}
use Rattle.states.specs.Sets.{has}
use Rattle.states.proofs.Bits.{word_same}
use Rattle.states.proofs.Words.{word_all}
use Rattle.states.proofs.StateSet.same.Goals as goal

pub returns : goal.returns
unfolding has
returns c = word_all eqb beq word_same _ _ c.struct_known-1.given.0.fits c.struct_known-2-1.given.0.fits
