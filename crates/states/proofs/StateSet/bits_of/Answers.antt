-- The bits of the word in the other order, and of these the first.
use Prim.Native.Nat.{◌-◌, ◌*◌, min}
use mathlib.Core.Path.{◌≡◌}
use native.Mathlib.Omega.{arith}
use Rattle.states.specs.Sets.{words_in, has, bits_where}
use Rattle.states.proofs.Words.{part_bits}
use Rattle.states.proofs.StateSet.bits_of.Goals as goal

pub returns-then-count-eq0 : goal.returns-then-count-eq0
unfolding bits_where has
returns-then-count-eq0 c = let a = c.args in
    let none : min 64 (a.n - 64 * a.part) ≡ 0 = omega arith in
    rw none

pub returns : goal.returns
unfolding bits_where has
returns c = let count = c.before in
    let a = count.args in
    rw (c.reversed.ensures, c.word.ensures, count.bits_in_word-count.ensures)
    (part_bits (words_in a.self) a.part (min 64 (a.n - 64 * a.part)) (omega arith))
