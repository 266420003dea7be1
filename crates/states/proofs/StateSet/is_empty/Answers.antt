-- A word is 0 iff it has no member.
use mathlib.Core.Path.{◌∙◌}
use mathlib.Core.Bool.{not}
use lib.Dec.{eqb}
use Rattle.states.specs.Sets.{capacity, has}
use Rattle.states.proofs.Bits.{word_empty}
use Rattle.states.proofs.Words.{word_all}
use Rattle.states.proofs.Search.{all_not}
use Rattle.states.proofs.StateSet.is_empty.Goals as goal

pub returns : goal.returns
unfolding has
returns c = let fits = c.struct_known-1.given.0.fits in
    word_all (λ x y. eqb x 0) (λ p q. not p) (λ x y l k. word_empty x l) _ _ fits fits ∙ all_not capacity _
