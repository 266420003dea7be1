-- After so many bits the buffer has the first of the value's bits; `put_more` adds those of one byte.
use mathlib.Core.Path.{◌≡◌, refl}
use native.Mathlib.Nat.{sub_self, div-one}
use native.Mathlib.Omega.{arith}
use borrow.Author.Rules.{rules}
use Rattle.writer.specs.Writing.{put_bits}
use Rattle.writer.proofs.Laws.{put_more}
use Rattle.writer.proofs.put_bits.Goals as goal

pub loop-done-init : goal.loop-done-init
unfolding put_bits
loop-done-init c = (search rules, refl)

pub loop-done-preserved : goal.loop-done-preserved
loop-done-preserved c =
    let a = c.args in (
      omega arith,
      rw (c.store.ensures, c.loop-done.invariant.1)
          (put_more a.out.now a.at c.loop-done.done c.in_byte-k.result a.width a.value (omega arith)),
    )

pub returns : goal.returns
returns c =
    let all : c.loop-done.done ≡ c.args.width = omega arith in
    rw (all, sub_self, div-one) at c.loop-done.invariant.1
