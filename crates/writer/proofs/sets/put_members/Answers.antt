-- After each round the bits of so many words are written; `word_more` adds those of one.
use Prim.Native.Nat.{◌*◌, min}
use mathlib.Core.Path.{◌≡◌, ◌∙◌}
use native.Mathlib.Omega.{arith}
use Rattle.states.specs.Sets.{has}
use Rattle.writer.specs.Writing.{put_bits}
use Rattle.writer.proofs.SetBits.{word_more}
use Rattle.writer.proofs.sets.put_members.Goals as goal

pub loop-part-init : goal.loop-part-init
unfolding put_bits
loop-part-init c =
    let none : min (64 * 0) c.args.n ≡ 0 = omega arith in
    rw none

pub loop-part-preserved : goal.loop-part-preserved
loop-part-preserved c =
    let a = c.args in
    c.put.ensures
    ∙ rw (c.bits_of.ensures, c.bits_in_word.ensures, c.loop-part.invariant)
    (word_more a.out.now a.at a.n (has a.set) c.loop-part.part (omega arith) (omega arith) (omega arith))

pub returns : goal.returns
returns c =
    let all : min (64 * c.loop-part.part) c.args.n ≡ c.args.n = omega arith in
    rw all at c.loop-part.invariant
