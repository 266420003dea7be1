-- `a & b == a` iff b has every member of a.
use lib.Bits.{bit_and}
use lib.Dec.{eqb}
use Rattle.states.specs.Search.{implies}
use Rattle.states.specs.Sets.{has}
use Rattle.states.proofs.Bits.{word_included}
use Rattle.states.proofs.Words.{word_all}
use Rattle.states.proofs.StateSet.included.Goals as goal

pub returns : goal.returns
unfolding has
returns c = word_all (λ x y. eqb (bit_and x y) x) implies word_included _ _ c.struct_known-3-1.given.0.fits c.struct_known-2-1.given.0.fits
