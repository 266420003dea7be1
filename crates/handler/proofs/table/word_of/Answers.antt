-- The sum is the definition's. Its numbers have at most 32 bits, so it fits.
use mathlib.Core.Path.{refl}
use Rattle.handler.specs.StatementTable.{statement_word}
use Rattle.handler.proofs.table.word_of.Goals as goal

pub returns : goal.returns
unfolding statement_word
returns c = refl
