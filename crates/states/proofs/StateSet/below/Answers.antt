-- `(1 << n) - 1` has the n lowest bits, and the word of 64 ones the 64 lowest.
use Prim.Native.Nat.{ℕ, ◌-◌, ◌≤◌, ◌<◌}
use native.Mathlib.Decide.{dec_lt}
use native.Mathlib.Omega.{arith}
use mathlib.Core.Path.{◌≡◌, ◌∙◌, ap}
use mathlib.Core.Bool.{◌&&◌}
use borrow.Author.Tests.{lt-ltb, le-ltb}
use lib.Dec.{ltb}
use lib.Pow.{pow_pos}
use Rattle.states.specs.Sets.{has}
use Rattle.states.proofs.Bits.{bit, bit_ones, shifted}
use Rattle.states.proofs.Words.{mem_bit}
use Rattle.states.proofs.StateSet.below.Goals as goal

full : (t n : ℕ) → 64 ≤ n → (ltb t 64 && ltb t 64) ≡ (ltb t 64 && ltb t n)
full t n h = at (dec_lt t 64)
  where
    at : Dec (t < 64) → (ltb t 64 && ltb t 64) ≡ (ltb t 64 && ltb t n)
    at (yes l) = rw (lt-ltb t 64 l, lt-ltb t n (omega arith))
    at (no l) = rw (le-ltb t 64 (omega arith))

pub overflow_sub-result : goal.overflow_sub-result
unfolding has
overflow_sub-result c = rw (shifted c.args.n (omega arith)) (pow_pos c.args.n)

pub returns-then-n-lt-CAPACITY : goal.returns-then-n-lt-CAPACITY
unfolding has
returns-then-n-lt-CAPACITY c t = mem_bit _ t ∙ ap (λ x. ltb t 64 && bit (x - 1) t) (shifted c.args.n (omega arith))
    ∙ ap (λ b. ltb t 64 && b) (bit_ones c.args.n t)

pub returns-else-n-lt-CAPACITY : goal.returns-else-n-lt-CAPACITY
unfolding has
returns-else-n-lt-CAPACITY c t = mem_bit _ t ∙ ap (λ b. ltb t 64 && b) (bit_ones 64 t) ∙ full t c.args.n (omega arith)
