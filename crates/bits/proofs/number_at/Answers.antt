-- The first test is that of the definition; at most 64 bits are the number's.
use mathlib.Core.Path.{sym, ◌∙◌}
use native.Mathlib.Omega.{arith}
use borrow.Author.Tests.{lt-leb}
use Rattle.bits.specs.Fields.{number_at}
use Rattle.bits.proofs.Laws.{number_bits}
use Rattle.bits.proofs.number_at.Goals as goal

pub returns-then-width-gt64 : goal.returns-then-width-gt64
unfolding number_at
returns-then-width-gt64 c = rw (lt-leb c.args.width 64 (omega arith))

pub returns-then-width-eq64 : goal.returns-then-width-eq64
returns-then-width-eq64 c = rw (number_bits _ _ c.args.width (omega arith), c.if-width-eq64.true) c.word.ensures

pub returns : goal.returns
returns c = c.gather.ensures ∙ sym (number_bits _ _ _ (omega arith))
