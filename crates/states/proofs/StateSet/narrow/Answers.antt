-- `a ^ (a & b)` removes from a what it shares with b.
use mathlib.Core.Path.{refl}
use mathlib.Core.Bool.{not, ◌&&◌}
use lib.Bits.{bit_and, bit_xor}
use Rattle.states.specs.Sets.{has}
use Rattle.states.proofs.Bits.{without_bits}
use Rattle.states.proofs.Words.{mem_word}
use Rattle.states.proofs.StateSet.narrow.Goals as goal

pub returns : goal.returns
unfolding has
returns c = let a = c.args in
    mem_word (λ x y. bit_xor x (bit_and x y)) (λ p q. p && not q) without_bits refl a.self.bits a.other.bits
