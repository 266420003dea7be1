-- After each round the first `done` bits are copied; `copy_more` adds a word.
use mathlib.Core.Path.{◌≡◌, refl, ◌∙◌}
use native.Mathlib.Omega.{arith}
use borrow.Author.Rules.{rules}
use Rattle.writer.specs.Writing.{put_bits}
use Rattle.writer.proofs.Copied.{copy_more}
use Rattle.writer.proofs.copy_bits.Goals as goal

pub loop-done-init : goal.loop-done-init
unfolding put_bits
loop-done-init c = (search rules, refl)

pub loop-done-preserved : goal.loop-done-preserved
loop-done-preserved c =
    let a = c.args in (
      omega arith,
      c.put.ensures
          ∙ rw (c.number_at.ensures, c.loop-done.invariant.1)
          (copy_more a.out.now a.src.now a.to a.from c.loop-done.done _ (omega arith) (omega arith) (omega arith) (omega arith)),
    )

pub returns : goal.returns
returns c =
    let all : c.loop-done.done ≡ c.args.width = omega arith in
    rw all at c.loop-done.invariant.1
