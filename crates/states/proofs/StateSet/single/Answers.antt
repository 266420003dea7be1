-- `1 << s` is 2 ^ s, whose only bit is s.
use native.Mathlib.Omega.{arith}
use mathlib.Core.Path.{◌∙◌, sym, ap}
use mathlib.Core.Bool.{◌&&◌}
use borrow.Author.Tests.{ltb-true, eqb-true}
use lib.Dec.{ltb, eqb}
use Rattle.states.specs.Sets.{has}
use Rattle.states.proofs.Search.{and_left, and_right, not_true_false}
use Rattle.states.proofs.Bits.{bit, bit_power, shifted}
use Rattle.states.proofs.Words.{mem_bit, mem_nought}
use Rattle.states.proofs.StateSet.single.Goals as goal

pub returns-then-s-lt-CAPACITY : goal.returns-then-s-lt-CAPACITY
unfolding has
returns-then-s-lt-CAPACITY c t = mem_bit _ t ∙ ap (λ x. ltb t 64 && bit x t) (shifted c.args.s (omega arith))
    ∙ ap (λ b. ltb t 64 && b) (bit_power c.args.s t)

pub returns-else-s-lt-CAPACITY : goal.returns-else-s-lt-CAPACITY
unfolding has
returns-else-s-lt-CAPACITY c t = let s = c.args.s in
    mem_nought t
    ∙ sym (not_true_false _ (λ e. omega (arith, ltb-true t 64 (and_left (ltb t 64) (eqb s t) e), eqb-true s t (and_right (ltb t 64) (eqb s t) e))))
